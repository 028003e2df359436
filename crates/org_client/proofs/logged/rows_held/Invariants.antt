-- Those of the rows so far.
use Rattle.std.proofs.Common.{◌≡◌, take}
use Rattle.std.specs.Prelude.{filter}
use Rattle.org_client.specs.LogRows.{is_of_log}
use Rattle.org_client.proofs.logged.rows_held.Given as goal

abbrev pub invariant-loop-row : goal.invariant-loop-row
invariant-loop-row l = l.some.items ≡ filter (is_of_log l.held) (take l.row-index l.rows)
