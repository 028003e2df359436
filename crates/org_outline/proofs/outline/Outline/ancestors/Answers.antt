use Rattle.std.proofs.Common.{ap, ◌∙◌, sym, arith}
use Rattle.org_outline.specs.Levels.{levels}
use Rattle.org_outline.specs.Tree.{up_from}
use Rattle.org_outline.proofs.Parents.{behind_parent}
use Rattle.org_outline.proofs.Chain.{ancestors_step}
use Rattle.org_outline.proofs.outline.Outline.ancestors.Goals as goal

pub invariant_of-result : goal.invariant_of-result
invariant_of-result c =
    let p = behind_parent (levels c.args.self.now) c.args.place in
    rw c.parent.ensures.value (omega (arith, c.requires))

pub returns : goal.returns
returns c = record {
  value = ap (up_from (levels c.args.self.now)) c.parent.ensures.value ∙ sym (ancestors_step (levels c.args.self.now) c.args.place);
}
