use Rattle.std.proofs.Common.{◌≡◌, drop}
use Rattle.org_overview.specs.Charts.{has_any}
use Rattle.org_overview.proofs.chart.has_any.Given as goal

abbrev pub invariant-loop-minutes : goal.invariant-loop-minutes
invariant-loop-minutes l = has_any (drop l.minutes-index l.sums) ≡ has_any l.sums
