use Rattle.std.proofs.Common.{◌≡◌, take}
use Rattle.org_page.specs.Sums.{column_sum, day_numbers, told}
use Rattle.org_page.proofs.chart.file_sum.Given as goal

abbrev pub invariant-loop-day : goal.invariant-loop-day
invariant-loop-day l = l.total ≡ told (column_sum day_numbers l.file (take l.day-index l.days))
