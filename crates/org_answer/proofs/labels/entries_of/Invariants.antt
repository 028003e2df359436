-- There is an entry for each row so far.
use Rattle.std.proofs.Common.{◌≡◌, ◌++◌, drop}
use Rattle.org_answer.specs.Pictures.{entry_stands, row_stands}
use Rattle.org_answer.proofs.labels.entries_of.Given as goal

abbrev pub invariant-loop-row : goal.invariant-loop-row
invariant-loop-row l = entry_stands l.entries.items ++ row_stands (drop l.row-index l.rows) ≡ row_stands l.rows
