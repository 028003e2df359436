use Rattle.std.proofs.Common.{arith, length-take}
use Rattle.org_lines.proofs.LineLemmas.{none_further}
use Rattle.org_lines.proofs.lines.first_len.Goals as goal

pub returns-in-Some-clause-one : goal.returns-in-Some-clause-one
returns-in-Some-clause-one g c k lo hi =
    let h = c.in-Some.ensures in
    none_further _ _ c.args.at c.loop-here.here c.min.result c.in-Some.i c.piece_at-piece.ensures.value c.loop-here.invariant.none (omega (arith, h.0.high)) h.0.before k lo (omega (arith, h.0.high))

pub loop-here-preserved : goal.loop-here-preserved
loop-here-preserved g c = record {
  from = omega arith;
  within = omega (arith, length-take c.min.result c.piece_at-piece.result.now);
  none = none_further _ _ c.args.at c.loop-here.here c.min.result _ c.piece_at-piece.ensures.value c.loop-here.invariant.none (omega arith) c.in-None.ensures;
}
