-- A name that is there keeps its number; another one gets it.
use Rattle.std.proofs.Common.{◌≡◌, ◌∙◌, ap, sym, cond, Some, false}
use Rattle.std.specs.Prelude.{bytes_eq, is_some}
use Rattle.org_base.specs.Found.{number_at}
use Rattle.org_base.proofs.NameLemmas.{found_by_order, number-insert, noted, kept}
use Rattle.org_base.proofs.name_set.note.Goals as goal

pub returns-then-contains_key-clause-ok : goal.returns-then-contains_key-clause-ok
returns-then-contains_key-clause-ok c = λ q.
    let es = c.args.places.now.entries in
    let name = c.args.name.now in
    kept es q name c.args.place (sym (ap is_some (found_by_order name es)) ∙ sym c.contains_key.ensures ∙ c.if-contains_key.true)

pub returns-clause-ok : goal.returns-clause-ok
returns-clause-ok c = λ q.
    let es = c.args.places.now.entries in
    let name = c.args.name.now in
    let absent : is_some (number_at es name) ≡ false = sym (ap is_some (found_by_order name es)) ∙ sym c.contains_key.ensures ∙ c.if-contains_key.false in
    ap (λ e. number_at e q) c.in_ok-insert.ensures.entries
    ∙ number-insert es c.in_ok-name.name c.args.place q
    ∙ ap (λ n. cond (bytes_eq q n) (Some c.args.place) (number_at es q)) c.in_ok-name.ensures.items
    ∙ noted es q name c.args.place absent
