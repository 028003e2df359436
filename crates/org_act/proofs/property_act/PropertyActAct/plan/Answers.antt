-- The heading that begins there gets the property; where none stands on the line, that is refused.
use Rattle.std.proofs.Common.{◌≡◌, ◌∙◌, List, ℕ, sym, ap, subst}
use Rattle.std.specs.Prelude.{Some, None}
use Rattle.org_act.proofs.ActLemmas.{makes_same}
use Rattle.org_act.proofs.PropertyActLemmas.{property_there}
use Rattle.org_act.specs.Changes.{Makes}
use Rattle.org_act.specs.Lines.{heading_at}
use Rattle.org_act.specs.PropertyActs.{given_text, given_there}
use Rattle.org_act.proofs.property_act.PropertyActAct.plan.Goals as goal

pub returns-in-Some : goal.returns-in-Some
returns-in-Some c =
    let act = c.args.self.now in
    let text = c.args.text.now in
    let at = c.in-Some.at in
    let found : heading_at text act.line ≡ Some at = ap (λ (t : List ℕ). heading_at t act.line) (sym c.as_bytes.ensures.value) ∙ sym c.in-Some.ensures.value in
    let made : Makes c.plan_at.result text (given_there act.change text at) = subst (λ (t : List ℕ). Makes c.plan_at.result t (given_there act.change t at)) c.as_bytes-in-Some.ensures.value c.plan_at.ensures.value in
    record { value = makes_same c.plan_at.result text (given_there act.change text at) (given_text act text) (sym (property_there act text (Some at) found)) made }

pub returns-in-None : goal.returns-in-None
returns-in-None c =
    let act = c.args.self.now in
    let text = c.args.text.now in
    record { value = λ _. property_there act text None (ap (λ (t : List ℕ). heading_at t act.line) (sym c.as_bytes.ensures.value) ∙ sym c.in-None.ensures.value) }
