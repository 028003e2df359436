use Rattle.std.proofs.Common.{◌≡◌, ◌++◌, drop}
use Rattle.org_overview.specs.Tasks.{rows_with}
use Rattle.org_overview.proofs.tasks.rows_with.Given as goal

abbrev pub invariant-loop-row : goal.invariant-loop-row
invariant-loop-row l = l.some.items ++ rows_with l.inherits l.word (drop l.row-index l.rows) ≡ rows_with l.inherits l.word l.rows
