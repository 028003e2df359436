use Rattle.std.proofs.Common.{◌≡◌, ◌++◌, drop}
use Rattle.org_overview.specs.Tasks.{rows_beside}
use Rattle.org_overview.proofs.tasks.rows_beside.Given as goal

abbrev pub invariant-loop-row : goal.invariant-loop-row
invariant-loop-row l = l.some.items ++ rows_beside l.inherits l.names (drop l.row-index l.rows) ≡ rows_beside l.inherits l.names l.rows
