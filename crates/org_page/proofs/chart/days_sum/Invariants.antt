use Rattle.std.proofs.Common.{◌≡◌, take}
use Rattle.org_page.specs.Sums.{all_sum, day_numbers, told}
use Rattle.org_page.proofs.chart.days_sum.Given as goal

abbrev pub invariant-loop-day : goal.invariant-loop-day
invariant-loop-day l = l.total ≡ told (all_sum day_numbers (take l.day-index l.days))
