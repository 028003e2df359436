-- The heading that begins there is planned; where none stands on the line, that is refused.
use Rattle.std.proofs.Common.{◌≡◌, ◌∙◌, ℕ, List, sym, ap, subst}
use Rattle.std.specs.Prelude.{Some, None}
use Rattle.org_act.proofs.ActLemmas.{makes_same, planned_there}
use Rattle.org_act.specs.Changes.{Makes}
use Rattle.org_act.specs.Lines.{heading_at}
use Rattle.org_act.specs.Planning.{planned_at, planned_text}
use Rattle.org_act.proofs.planning.PlanningAct.plan.Goals as goal

pub returns-in-Some : goal.returns-in-Some
returns-in-Some c =
    let act = c.args.self.now in
    let text = c.args.text.now in
    let at = c.in-Some.at in
    let found : heading_at text act.line ≡ Some at = ap (λ (t : List ℕ). heading_at t act.line) (sym c.as_bytes.ensures.value) ∙ sym c.in-Some.ensures.value in
    let made : Makes c.plan_at.result text (planned_at act text at) = subst (λ (t : List ℕ). Makes c.plan_at.result t (planned_at act t at)) c.as_bytes-in-Some.ensures.value c.plan_at.ensures.value in
    record { value = makes_same c.plan_at.result text (planned_at act text at) (planned_text act text) (sym (planned_there act text (Some at) found)) made }

pub returns-in-None : goal.returns-in-None
returns-in-None c =
    let act = c.args.self.now in
    let text = c.args.text.now in
    record { value = λ _. planned_there act text None (ap (λ (t : List ℕ). heading_at t act.line) (sym c.as_bytes.ensures.value) ∙ sym c.in-None.ensures.value) }
