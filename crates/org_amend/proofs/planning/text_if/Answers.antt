use Rattle.std.proofs.Common.{rules, ◌≡◌, Bool, true, sym, ◌∙◌, ap}
use Rattle.org_amend.proofs.PlanningLemmas.{text_refused, text_taken}
use Rattle.org_amend.specs.Planning.{text_if}
use Rattle.std.specs.Prelude.{Some}
use Rattle.org_amend.proofs.planning.text_if.Goals as goal

pub returns-in_ok-from_str-in-Ok : goal.returns-in_ok-from_str-in-Ok
returns-in_ok-from_str-in-Ok c =
    let bytes = c.args.bytes.now in
    let wanted : c.args.is_wanted ≡ true = search rules in
    record { value = ap Some (c.in_ok-from_str-in-Ok.ensures.ok ∙ c.in-Ok.ensures.cases.0) ∙ sym (ap (λ (b : Bool). text_if b bytes) wanted ∙ text_taken bytes c.in-Ok.ensures.cases.1) }

pub returns-in-Err : goal.returns-in-Err
returns-in-Err c =
    let bytes = c.args.bytes.now in
    let wanted : c.args.is_wanted ≡ true = search rules in
    record { value = sym (ap (λ (b : Bool). text_if b bytes) wanted ∙ text_refused bytes c.in-Err.ensures.cases.0) }
