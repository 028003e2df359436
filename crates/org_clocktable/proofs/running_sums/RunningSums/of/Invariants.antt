-- The marks so far, with those of the clocks that are left.
use Rattle.std.proofs.Common.{◌≡◌, ◌+◌, ◌++◌, drop}
use Rattle.org_clocktable.specs.RunningSums.{minutes_of}
use Rattle.org_clocktable.proofs.RunningSumLemmas.{marks_from}
use Rattle.org_clocktable.proofs.running_sums.RunningSums.of.Given as goal

abbrev pub invariant-loop-clock : goal.invariant-loop-clock
invariant-loop-clock l = record {
  running : l.running.items ++ marks_from (l.period.first, l.period.last) l.total (drop l.clock-index l.clocks) ≡ marks_from (l.period.first, l.period.last) 0 l.clocks;
  total : l.total + minutes_of (l.period.first, l.period.last) (drop l.clock-index l.clocks) ≡ minutes_of (l.period.first, l.period.last) l.clocks;
}
