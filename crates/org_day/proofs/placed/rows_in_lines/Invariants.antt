-- The rows that are placed, and those that are left, are all.
use Rattle.std.proofs.Common.{◌≡◌, ◌++◌, drop}
use Rattle.org_day.specs.Placed.{placed_all, placed_from}
use Rattle.org_day.proofs.placed.rows_in_lines.Given as goal

abbrev pub invariant-loop-place : goal.invariant-loop-place
invariant-loop-place l = l.placed.items ++ placed_from l.stands l.place (drop l.place l.stands) ≡ placed_all l.stands
