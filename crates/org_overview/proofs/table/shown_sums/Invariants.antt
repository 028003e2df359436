use Rattle.std.proofs.Common.{◌≡◌, ◌++◌, drop, map}
use Rattle.org_overview.specs.Tables.{row_minutes, sums_minutes}
use Rattle.org_overview.proofs.table.shown_sums.Given as goal

abbrev pub invariant-loop-row : goal.invariant-loop-row
invariant-loop-row g l = sums_minutes l.sums.items ++ map row_minutes (drop l.row-index l.rows) ≡ map row_minutes l.rows
