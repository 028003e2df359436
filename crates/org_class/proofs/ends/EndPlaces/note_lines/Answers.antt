-- The line ends a block, or not.
use Rattle.std.proofs.Common.{ap, arith, length}
use Rattle.org_class.specs.Ends.{place_of}
use Rattle.org_class.proofs.StepLemmas.{end_more}
use Rattle.org_class.proofs.ends.EndPlaces.note_lines.Goals as goal

pub loop-line-preserved : goal.loop-line-preserved
loop-line-preserved g c =
    let step = rw c.in_ok-line.was at c.in-Some.ensures.steps in
    let count = ap length step.1 in
    record {
      few = omega (arith, count, c.loop-line.invariant.few);
      known = λ name. end_more name (place_of c.loop-line.places name) _ c.loop-line.number _ _ _ step.0 _ step.1 step.2.bytes (c.in_ok-note_end.ensures.ok name) (c.loop-line.invariant.known name);
    }
