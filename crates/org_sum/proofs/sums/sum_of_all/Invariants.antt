use Rattle.std.proofs.Common.{◌≡◌}
use Rattle.org_sum.specs.Sums.{own_at, sum_below}
use Rattle.org_sum.specs.Measures.{amount}
use Rattle.org_sum.proofs.sums.sum_of_all.Given as goal

abbrev pub invariant-loop-i : goal.invariant-loop-i
invariant-loop-i l = l.sum ≡ sum_below (own_at (amount l.measure) l.outline l.counted) l.i
