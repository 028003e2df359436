use Rattle.std.proofs.Common.{◌≡◌, map}
use Rattle.std.specs.List.{range_with_len}
use Rattle.org_overview.specs.Charts.{day_numbers, numbers_at}
use Rattle.org_overview.proofs.chart.chart_days.Given as goal

abbrev pub invariant-loop-place : goal.invariant-loop-place
invariant-loop-place l = map day_numbers l.days.items ≡ map (numbers_at l.files) (range_with_len l.first l.place)
