use Rattle.std.proofs.Common.{◌≡◌, take}
use Rattle.org_sum.specs.Measures.{minutes_of}
use Rattle.org_sum.proofs.measure.minutes_of.Given as goal

abbrev pub invariant-loop-clock : goal.invariant-loop-clock
invariant-loop-clock l = l.sum ≡ minutes_of (l.period.first, l.period.last) (take l.clock-index l.clocks)
