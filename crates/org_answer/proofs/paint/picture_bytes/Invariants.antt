-- The lines so far are painted.
use Rattle.org_answer.specs.Painted.{ArePaintedLines}
use Rattle.org_answer.proofs.paint.picture_bytes.Given as goal

abbrev pub invariant-loop-line : goal.invariant-loop-line
invariant-loop-line l = ArePaintedLines l.look.is_seen l.out.items
