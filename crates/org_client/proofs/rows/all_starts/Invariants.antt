-- Where the lines of the files so far begin.
use Rattle.std.proofs.Common.{◌≡◌, map, take}
use Rattle.org_client.specs.Report.{starts_of}
use Rattle.org_client.proofs.rows.all_starts.Given as goal

abbrev pub invariant-loop-place : goal.invariant-loop-place
invariant-loop-place g l = l.all.items ≡ map starts_of (take l.place l.file_set.files)
