use Rattle.std.proofs.Common.{ap₂, sym, ◌∙◌, arith}
use Rattle.org_outline.specs.Tree.{ends}
use Rattle.org_outline.proofs.Ends.{end_found}
use Rattle.org_outline.proofs.levels.Levels.end_of.Goals as goal

pub returns-else-not-ends_subtree : goal.returns-else-not-ends_subtree
returns-else-not-ends_subtree c =
    record { value = sym (end_found c.args.self.now c.args.place c.loop-end.end c.loop-end.invariant (λ h. ap₂ ends (sym c.get-level.ensures.value) (sym c.get.ensures.value) ∙ sym c.ends_subtree.ensures.value ∙ c.if-not-ends_subtree.false)) }

pub returns-after-loop-end : goal.returns-after-loop-end
returns-after-loop-end c = record {
  value = sym (end_found c.args.self.now c.args.place c.loop-end.end c.loop-end.invariant (λ h. absurd (omega (arith, h, c.loop-end-test.false, c.count-count.ensures.value))));
}
