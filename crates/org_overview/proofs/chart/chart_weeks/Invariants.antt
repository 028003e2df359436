use Rattle.std.proofs.Common.{◌≡◌, ◌+◌, ◌-◌, ◌*◌, map}
use Rattle.std.specs.Prelude.{min}
use Rattle.std.specs.List.{range_with_len}
use Rattle.org_overview.specs.Charts.{numbers_at, weeks_numbers}
use Rattle.org_overview.proofs.chart.chart_weeks.Given as goal

abbrev pub invariant-loop-week : goal.invariant-loop-week
invariant-loop-week l = weeks_numbers l.weeks.items ≡ map (numbers_at l.files) (range_with_len 0 (min (7 * l.week) (l.period.last + 1 - l.period.first)))
