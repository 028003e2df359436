-- The lines so far are clean where they have to be.
use Rattle.org_answer.specs.Shown.{AreCleanLines, IsSafe}
use Rattle.org_answer.proofs.grouped.bytes_of.Given as goal

abbrev pub invariant-loop-line : goal.invariant-loop-line
invariant-loop-line g l = IsSafe l.shown.look.now → AreCleanLines l.out.items
