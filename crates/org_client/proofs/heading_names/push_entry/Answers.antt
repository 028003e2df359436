-- A title without < is the same beside its stamps.
use Rattle.std.proofs.Common.{◌≡◌, ◌∙◌, List, [], ◌∷◌, ◌++◌, sym, ap, false}
use Rattle.std.proofs.lemmas.Result.{on_ok_weaker}
use Rattle.org_base.specs.Spans.{bytes_in}
use Rattle.org_client.specs.HeadingNames.{id_heading_of, plain_title}
use Rattle.org_ids.specs.Names.{IdHeading, names_view}
use Rattle.org_client.proofs.BesideLemmas.{has_open, plain_already}
use Rattle.org_client.proofs.heading_names.push_entry.Goals as goal

pub returns-then-not-contains : goal.returns-then-not-contains
returns-then-not-contains c =
    let entry = c.args.entry.now in
    let head = c.in-Some.head in
    let none : has_open c.part-title.result.now ≡ false = sym c.contains.ensures.value ∙ c.if-not-contains.true in
    let title : c.part-title.result.now ≡ plain_title (bytes_in entry.text head.title) =
    sym (plain_already c.part-title.result.now none) ∙ ap plain_title c.part-title.ensures.value in
    let is = (λ i. record { level = head.level; title = title i; id = c.property-id.ensures.value i } ∷ []) ∙ ap (id_heading_of entry) (sym c.in-Some.is) in
    record {
      ok = λ file hs e.
          on_ok_weaker c.push.result (λ new. new ∙ ap (λ (x : List IdHeading). names_view file (hs ++ x)) is) (c.push.ensures.ok file hs e);
    }
