use Rattle.std.proofs.Common.{◌≡◌, take, sum}
use Rattle.org_page.specs.Sums.{told}
use Rattle.org_page.proofs.chart.sum_of.Given as goal

abbrev pub invariant-loop-each : goal.invariant-loop-each
invariant-loop-each l = l.total ≡ told (sum (take l.each-index l.minutes))
