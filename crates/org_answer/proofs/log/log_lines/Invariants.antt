-- The lines so far are clean where they have to be.
use Rattle.org_answer.specs.Shown.{AreCleanLines, IsSafe}
use Rattle.org_answer.proofs.log.log_lines.Given as goal

abbrev pub invariant-loop-place : goal.invariant-loop-place
invariant-loop-place g l = IsSafe l.look → AreCleanLines l.out.items
