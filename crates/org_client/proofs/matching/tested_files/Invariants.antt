-- Those of the files so far.
use Rattle.std.proofs.Common.{◌≡◌, map, take}
use Rattle.org_agenda.specs.Holding.{holds_of}
use Rattle.org_client.proofs.matching.tested_files.Given as goal

abbrev pub invariant-loop-place : goal.invariant-loop-place
invariant-loop-place l = record {
  files : l.files.items ≡ map (holds_of l.fn.matcher l.moment) (take l.place l.inherits);
  same : l.matcher ≡ l.fn.matcher;
}
