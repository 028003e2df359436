use Rattle.std.proofs.Common.{◌≡◌, ◌++◌, take, drop, sum}
use Rattle.org_page.specs.Sums.{blocks_from, told}
use Rattle.org_page.proofs.chart.blocks_of.Given as goal

abbrev pub invariant-loop-each : goal.invariant-loop-each
invariant-loop-each l = record {
  below : l.below ≡ told (sum (take l.each-index l.minutes));
  told : l.blocks.items ++ blocks_from (sum (take l.each-index l.minutes)) (drop l.each-index l.minutes) ≡ blocks_from 0 l.minutes;
}
