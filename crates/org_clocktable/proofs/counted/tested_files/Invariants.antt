-- Those of the files so far.
use Rattle.std.proofs.Common.{◌≡◌, map, take}
use Rattle.org_clocktable.specs.Counted.{matching_of}
use Rattle.org_clocktable.proofs.counted.tested_files.Given as goal

abbrev pub invariant-loop-place : goal.invariant-loop-place
invariant-loop-place l = record {
  files : l.files.items ≡ map (matching_of l.fn.matcher l.moment) (take l.place l.inherits);
  same : l.matcher ≡ l.fn.matcher;
}
