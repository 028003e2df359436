-- Those so far.
use Rattle.std.proofs.Common.{◌≡◌, ◌*◌, map}
use Rattle.std.specs.List.{range_with_len}
use Rattle.org_overview.specs.Cells.{cell_of, weeks_cells}
use Rattle.org_overview.proofs.month.weeks_of.Given as goal

abbrev pub invariant-loop-week : goal.invariant-loop-week
invariant-loop-week g l = weeks_cells l.weeks.items ≡ map (cell_of l.seen.files.now.files l.agenda) (range_with_len 0 (7 * l.week))
