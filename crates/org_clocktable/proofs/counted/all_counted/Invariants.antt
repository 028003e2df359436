-- Those of the files so far.
use Rattle.std.proofs.Common.{◌≡◌, map, take}
use Rattle.org_clocktable.specs.Counted.{whole_of}
use Rattle.org_clocktable.proofs.counted.all_counted.Given as goal

abbrev pub invariant-loop-place : goal.invariant-loop-place
invariant-loop-place l = l.files.items ≡ map whole_of (take l.place l.inherits)
