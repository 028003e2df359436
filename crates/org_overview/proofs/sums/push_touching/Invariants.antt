use Rattle.std.proofs.Common.{◌≡◌, ◌++◌, drop}
use Rattle.org_overview.specs.Sums.{touching}
use Rattle.org_overview.proofs.sums.push_touching.Given as goal

abbrev pub invariant-loop-clock : goal.invariant-loop-clock
invariant-loop-clock l = l.clocks.items ++ touching (l.period.first, l.period.last) (drop l.clock-index l.own) ≡ l.fn.clocks.items ++ touching (l.period.first, l.period.last) l.own
