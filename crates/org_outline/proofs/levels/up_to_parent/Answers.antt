use Rattle.std.proofs.Common.{◌≡◌, ℕ, suc, ◌+◌, ◌-◌, get_or, sym, ap, ◌∙◌, subst, arith}
use Rattle.org_outline.specs.Places.{behind}
use Rattle.org_outline.specs.Parents.{up_to_parent}
use Rattle.org_outline.proofs.Parents.{NoneFrom, none_at_first, no_parent, no_heading_no_parent, parent_found, over_heading, behind_parent}
use Rattle.org_outline.proofs.levels.up_to_parent.Goals as goal

pub returns-in_default : goal.returns-in_default
returns-in_default c = record { value = sym (ap behind (no_heading_no_parent c.args.levels.now c.args.place (sym c.get.ensures.value ∙ c.in_default.is))) }

pub loop-rest-init : goal.loop-rest-init
loop-rest-init c = none_at_first c.args.levels.now c.args.place

pub returns-then-other-level : goal.returns-then-other-level
returns-then-other-level c =
    let e : c.loop-rest.rest ≡ suc (c.loop-rest.rest - 1) = omega arith in
    let n : NoneFrom c.args.levels.now c.args.place (suc (c.loop-rest.rest - 1)) = subst (λ (x : ℕ). NoneFrom c.args.levels.now c.args.place x) e c.loop-rest.invariant in
    let found = parent_found c.args.levels.now c.args.place (c.loop-rest.rest - 1) c.in-Some-get.other c.in-Some.level n (sym c.get.ensures.value ∙ c.in-Some.is) (sym c.get-in-loop-rest.ensures.value ∙ c.in-Some-get.is) c.if-other-level.true in
    let count : c.loop-rest.rest - 1 + 1 ≡ c.loop-rest.rest = omega arith in
    record { value = sym (ap behind found ∙ count) }

pub loop-rest-smaller : goal.loop-rest-smaller
loop-rest-smaller c =
    let b : get_or c.args.parents.now (c.loop-rest.rest - 1) 0 ≡ up_to_parent c.args.levels.now (c.loop-rest.rest - 1) = c.requires.before (c.loop-rest.rest - 1) (omega (arith, c.loop-rest.invariant.within)) in
    omega (arith, b, behind_parent c.args.levels.now (c.loop-rest.rest - 1))

pub loop-rest-preserved : goal.loop-rest-preserved
loop-rest-preserved c =
    let k : ℕ = c.loop-rest.rest - 1 in
    let b : get_or c.args.parents.now k 0 ≡ up_to_parent c.args.levels.now k = c.requires.before k (omega (arith, c.loop-rest.invariant.within)) in
    let s : c.loop-rest.rest ≡ suc k = omega arith in
    let n : NoneFrom c.args.levels.now c.args.place (suc k) = subst (λ (x : ℕ). NoneFrom c.args.levels.now c.args.place x) s c.loop-rest.invariant in
    subst (λ (x : ℕ). NoneFrom c.args.levels.now c.args.place x) (sym b)
    (over_heading c.args.levels.now c.args.place k c.in-Some-get.other c.in-Some.level n (sym c.get.ensures.value ∙ c.in-Some.is) (sym c.get-in-loop-rest.ensures.value ∙ c.in-Some-get.is) c.if-other-level.false)

pub returns : goal.returns
returns c =
    let e : c.loop-rest.rest ≡ 0 = omega arith in
    record { value = sym (ap behind (no_parent c.args.levels.now c.args.place (subst (λ (x : ℕ). NoneFrom c.args.levels.now c.args.place x) e c.loop-rest.invariant))) }
