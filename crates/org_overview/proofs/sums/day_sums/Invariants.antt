use Rattle.std.proofs.Common.{◌≡◌, map}
use Rattle.std.specs.List.{range_with_len}
use Rattle.org_overview.specs.Sums.{day_sum}
use Rattle.org_overview.proofs.sums.day_sums.Given as goal

abbrev pub invariant-loop-ahead : goal.invariant-loop-ahead
invariant-loop-ahead l = l.sums.items ≡ map (day_sum l.clocks) (range_with_len l.period.first l.ahead)
