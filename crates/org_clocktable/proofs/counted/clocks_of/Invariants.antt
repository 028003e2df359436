-- Those so far, with those that are left.
use Rattle.std.proofs.Common.{◌≡◌, ◌+◌, ◌++◌, drop}
use Rattle.org_clocktable.specs.Counted.{clocks_from}
use Rattle.org_clocktable.proofs.counted.clocks_of.Given as goal

abbrev pub invariant-loop-place : goal.invariant-loop-place
invariant-loop-place l = l.clocks.items ++ clocks_from (0 + l.place) (drop l.place l.outline) (drop l.place l.counted) ≡ clocks_from 0 l.outline l.counted
