-- The tasks so far, with those of the rows that are left.
use Rattle.std.proofs.Common.{◌≡◌, ◌++◌, drop}
use Rattle.org_overview.specs.Marks.{marks_of}
use Rattle.org_overview.specs.Groups.{tasks_marks}
use Rattle.org_overview.proofs.tasks.tasks_of.Given as goal

abbrev pub invariant-loop-row : goal.invariant-loop-row
invariant-loop-row g l = tasks_marks l.tasks.items ++ marks_of l.seen.files.now.files (drop l.row-index l.rows) ≡ marks_of l.seen.files.now.files l.rows
