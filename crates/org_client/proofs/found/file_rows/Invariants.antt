-- The rows of the entries so far.
use Rattle.std.proofs.Common.{◌≡◌}
use Rattle.org_client.specs.FoundRows.{is_found, rows_to}
use Rattle.org_client.proofs.found.file_rows.Given as goal

abbrev pub invariant-loop-heading : goal.invariant-loop-heading
invariant-loop-heading g l = record {
  rows : l.rows.items ≡ rows_to (is_found l.fn.scan l.file l.inherit) l.place l.heading;
  same : l.scan ≡ l.fn.scan;
}
