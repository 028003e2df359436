-- Those of the rows so far.
use Rattle.std.proofs.Common.{◌≡◌, take}
use Rattle.std.specs.Prelude.{filter}
use Rattle.org_client.specs.Efforts.{is_of_row}
use Rattle.org_client.proofs.efforts.rows_within.Given as goal

abbrev pub invariant-loop-row : goal.invariant-loop-row
invariant-loop-row l = l.some.items ≡ filter (is_of_row l.efforts l.inherits) (take l.row-index l.rows)
