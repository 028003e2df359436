-- The rest of the line is its last part.
use Rattle.org_answer.proofs.PaintedLemmas.{ends}
use Rattle.org_answer.proofs.paint.push_parts.Goals as goal

pub returns : goal.returns
returns c =
    ends c.args.place.is_seen c.args.line.now c.loop-stain.rest.now c.args.out.now.items c.loop-stain.out.items c.push_part-2.new.out.items
    c.loop-stain.invariant.painted c.in_ok-push_part-3.ensures
