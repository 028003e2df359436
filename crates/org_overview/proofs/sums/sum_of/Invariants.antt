use Rattle.std.proofs.Common.{◌≡◌, take}
use Rattle.org_page.specs.Sums.{told}
use Rattle.org_sum.specs.Measures.{minutes_of}
use Rattle.org_overview.proofs.sums.sum_of.Given as goal

abbrev pub invariant-loop-clock : goal.invariant-loop-clock
invariant-loop-clock l = l.total ≡ told (minutes_of (l.days.first, l.days.last) (take l.clock-index l.clocks))
