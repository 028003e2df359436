use Rattle.std.proofs.Common.{◌∙◌, arith}
use Rattle.org_agenda.proofs.SpreadLemmas.{spread_more}
use Rattle.org_agenda.proofs.spread.spread.Goals as goal

pub loop-place-preserved : goal.loop-place-preserved
loop-place-preserved c =
    let inv = c.loop-place.invariant in
    let e = c.in_ok-give.ensures in
    record {
      spread = spread_more c.args.as_of.now c.args.sources.now c.args.first c.loop-place.place _ _ (omega arith) e.count inv.spread e.ok;
      count = e.count ∙ inv.count;
    }
