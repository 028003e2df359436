-- The rows so far, with those that are left.
use Rattle.std.proofs.Common.{◌≡◌, ◌++◌, drop}
use Rattle.org_overview.specs.Marks.{marks_of, shown_marks}
use Rattle.org_overview.proofs.rows.page_rows.Given as goal

abbrev pub invariant-loop-row : goal.invariant-loop-row
invariant-loop-row g l = shown_marks l.shown.items ++ marks_of l.seen.files.now.files (drop l.row-index l.rows) ≡ marks_of l.seen.files.now.files l.rows
