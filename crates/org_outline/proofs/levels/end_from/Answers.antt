use Rattle.std.proofs.Common.{◌≡◌, ℕ, ◌<◌, length, get_or, ap₂, sym, ◌∙◌, subst, arith}
use Rattle.org_outline.specs.Tree.{end_of, ends}
use Rattle.org_outline.proofs.Ends.{BelowUpTo, end_is, end_found, over_subtree}
use Rattle.org_outline.proofs.levels.end_from.Goals as goal

pub returns-then-ends_subtree : goal.returns-then-ends_subtree
returns-then-ends_subtree c = record {
  value = sym (end_found c.args.levels.now c.args.place c.loop-end.end c.loop-end.invariant (λ h. ap₂ ends (sym c.get.ensures.value) (sym c.get-in-loop-end.ensures.value) ∙ sym c.ends_subtree.ensures.value ∙ c.if-ends_subtree.true));
}

pub loop-end-smaller : goal.loop-end-smaller
loop-end-smaller c =
    let within : c.loop-end.end < length c.args.levels.now = omega (arith, c.loop-end-test.true, c.count.ensures.value) in
    let e : get_or c.args.all_ends.now c.loop-end.end 0 ≡ end_of c.args.levels.now c.loop-end.end = c.requires.later c.loop-end.end c.loop-end.invariant.from within in
    omega (arith, e, (end_is c.args.levels.now c.loop-end.end within).from)

pub loop-end-preserved : goal.loop-end-preserved
loop-end-preserved c =
    let within : c.loop-end.end < length c.args.levels.now = omega (arith, c.loop-end-test.true, c.count.ensures.value) in
    let e : get_or c.args.all_ends.now c.loop-end.end 0 ≡ end_of c.args.levels.now c.loop-end.end = c.requires.later c.loop-end.end c.loop-end.invariant.from within in
    let below = ap₂ ends (sym c.get.ensures.value) (sym c.get-in-loop-end.ensures.value) ∙ sym c.ends_subtree.ensures.value ∙ c.if-ends_subtree.false in
    subst (λ (x : ℕ). BelowUpTo c.args.levels.now c.args.place x) (sym e) (over_subtree c.args.levels.now c.args.place c.loop-end.end c.loop-end.invariant within below)

pub returns : goal.returns
returns c = record { value = sym (end_found c.args.levels.now c.args.place c.loop-end.end c.loop-end.invariant (λ h. absurd (omega (arith, h, c.loop-end-test.false, c.count.ensures.value)))) }
