-- The rows of the files so far.
use Rattle.std.proofs.Common.{◌≡◌}
use Rattle.org_client.specs.FoundRows.{files_rows}
use Rattle.org_client.proofs.found.found_rows.Given as goal

abbrev pub invariant-loop-place : goal.invariant-loop-place
invariant-loop-place g l = record {
  rows : l.rows.items ≡ files_rows l.fn.scan l.file_set.files l.inherits l.place;
  same : l.scan ≡ l.fn.scan;
}
