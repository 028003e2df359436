-- One line alone, where there are categories.
use Rattle.std.proofs.Common.{◌≡◌, ◌∙◌, ◌++◌, List, ℕ, ap, append-nil, subst, sym}
use Rattle.std.specs.Prelude.{OnOk, codes}
use Rattle.org_ical.specs.Lines.{written, written_line}
use Rattle.org_ical.specs.Properties.{property}
use Rattle.org_ical.specs.Results.{bytes_of}
use Rattle.org_ical.specs.Texts.{values_text}
use Rattle.org_ical.proofs.PropertyLemmas.{categories_some}
use Rattle.org_ical.proofs.words.push_categories.Goals as goal

pub returns : goal.returns
returns c =
    let texts = c.args.categories.now in
    let some = categories_some texts (sym c.is_empty.ensures ∙ c.if-is_empty.false) in
    let value : c.as_slice.result.now ≡ values_text (bytes_of texts) =
    c.as_slice.ensures.value ∙ c.in_ok-push_values.ensures ∙ ap (λ t. t ++ values_text (bytes_of texts)) c.new-value.ensures.items in
    let P : List ℕ → Type 0 = λ t. OnOk c.push_property.result (c.push_property.new.out.items ≡ c.args.out.now.items ++ t) in
    subst P (ap (λ v. written_line (property (codes "CATEGORIES") v)) value ∙ sym (ap written some ∙ append-nil _)) c.push_property.ensures
