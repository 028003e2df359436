use Rattle.std.proofs.Common.{arith}
use Rattle.org_sequence.specs.Sums.{amount_in}
use Rattle.org_sequence.proofs.Joins.{size_more}
use Rattle.org_sequence.proofs.search.find_in.Goals as goal

pub returns-then-place-before : goal.returns-then-place-before
returns-then-place-before g c =
    let amount = amount_in g.T.Measured.size g.T.Measured.lines c.args.measure in
    let more = size_more amount c.args.items.now c.loop-at.at c.index-items-at.result c.loop-at-test.true c.index-items-at.is in
    record {
      within = c.loop-at-test.true;
      before_is = c.loop-at.invariant.counted;
      begun = c.loop-at.invariant.begun;
      ended = omega (arith, more.0, c.amount-amount.ensures.value);
    }
