-- Those so far.
use Rattle.std.proofs.Common.{◌≡◌, ◌++◌, take}
use Rattle.org_clocktable.specs.Counted.{placed}
use Rattle.org_clocktable.proofs.counted.push_all.Given as goal

abbrev pub invariant-loop-clock : goal.invariant-loop-clock
invariant-loop-clock l = l.clocks.items ≡ l.fn.clocks.items ++ placed l.place (take l.clock-index l.own)
