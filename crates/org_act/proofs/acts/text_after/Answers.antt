-- What is no text is refused.
use Rattle.std.proofs.Common.{◌≡◌, ◌∙◌, List, ℕ, ap, sym, subst}
use Rattle.std.specs.Prelude.{Ok, string_bytes}
use Rattle.std.proofs.lemmas.Str.{IsUtf8-string_bytes}
use Rattle.std.specs.Str.{IsUtf8}
use Rattle.org_act.proofs.TurnLemmas.{no_text, not_ok, text_stays}
use Rattle.org_act.specs.Changes.{with_change}
use Rattle.org_act.specs.Several.{if_text}
use Rattle.org_act.proofs.acts.text_after.Goals as goal

pub returns-in-Ok : goal.returns-in-Ok
returns-in-Ok g c =
    let made = with_change c.args.text.now c.in_ok-change.change in
    let bytes : string_bytes c.in-Ok.new ≡ made =
    ap (λ v. v.items) c.in-Ok.ensures.ok ∙ (c.in_ok-new.ensures.value ∙ ap (λ (t : List ℕ). with_change t c.in_ok-change.change) c.as_bytes.ensures.value) in
    record { value = ap if_text c.in_ok-change.ensures.value.1 ∙ (ap (λ (b : List ℕ). if_text (Ok b)) (sym bytes) ∙ text_stays (string_bytes c.in-Ok.new) (IsUtf8-string_bytes c.in-Ok.new)) }

pub returns : goal.returns
returns g c =
    let made = with_change c.args.text.now c.in_ok-change.change in
    let bytes = c.in_ok-new.ensures.value ∙ ap (λ (t : List ℕ). with_change t c.in_ok-change.change) c.as_bytes.ensures.value in
    record { value = λ _. ap if_text c.in_ok-change.ensures.value.1 ∙ no_text made (λ utf8. not_ok c.from_utf8.result c.in-Err.field-0 c.in-Err.is (c.from_utf8.ensures.succeeds (subst IsUtf8 (sym bytes) utf8))) }
