-- Those so far.
use Rattle.std.proofs.Common.{◌≡◌, map}
use Rattle.std.specs.List.{range_with_len}
use Rattle.org_overview.specs.Cells.{cell_marks, cell_of}
use Rattle.org_overview.proofs.month.week_days.Given as goal

abbrev pub invariant-loop-column : goal.invariant-loop-column
invariant-loop-column g l = map cell_marks l.days.items ≡ map (cell_of l.seen.files.now.files l.agenda) (range_with_len l.first l.column)
