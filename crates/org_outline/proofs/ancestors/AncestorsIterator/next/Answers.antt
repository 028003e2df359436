use Rattle.std.proofs.Common.{◌≤◌, ◌∷◌, ◌∙◌, length, sym, ap, arith, rules, Some}
use Rattle.org_outline.specs.Levels.{levels}
use Rattle.org_outline.specs.Places.{behind}
use Rattle.org_outline.proofs.Parents.{behind_parent}
use Rattle.org_outline.proofs.Chain.{ancestors_step}
use Rattle.org_outline.proofs.ancestors.AncestorsIterator.next.Goals as goal

pub invariant_of-self : goal.invariant_of-self
invariant_of-self c =
    let p = behind_parent (levels c.self.inside.outline.now) c.in_ok-place.place in
    let b : behind (Some c.in_ok-place.place) ≤ length c.self.inside.outline.now = rw c.in_ok-place.was at c.self.invariant in
    rw c.parent-self-inside.ensures.value (omega arith)

steps : goal.returns-clause-steps
steps c =
    let s = ancestors_step (levels c.self.inside.outline.now) c.in_ok-place.place in
    sym c.self.view_is ∙ (rw (c.in_ok-place.was, c.parent-self-inside.ensures.value) (ap (λ v. c.in_ok-place.place ∷ v) s))

pub returns-clause-steps : goal.returns-clause-steps
returns-clause-steps c = steps c

pub returns-clause-goes : goal.returns-clause-goes
returns-clause-goes c =
    let n = ap length (steps c) in
    record { on = λ h. (search rules, search rules, omega (arith, n)); keeps = search rules; rests = λ h. search rules }
