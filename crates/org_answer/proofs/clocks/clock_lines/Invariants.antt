-- The lines so far are clean where they have to be.
use Rattle.org_answer.specs.Shown.{AreCleanLines, IsSafe}
use Rattle.org_answer.proofs.clocks.clock_lines.Given as goal

abbrev pub invariant-loop-clock : goal.invariant-loop-clock
invariant-loop-clock g l = IsSafe l.look → AreCleanLines l.out.items
