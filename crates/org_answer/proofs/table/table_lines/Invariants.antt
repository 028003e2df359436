-- The steps so far, and those that are left, are all.
use Rattle.std.proofs.Common.{◌≡◌, ◌++◌}
use Rattle.std.specs.List.{flat_map}
use Rattle.org_answer.specs.Tables.{lines_of_steps, step_stands}
use Rattle.org_answer.proofs.table.table_lines.Given as goal

abbrev pub invariant-loop-period : goal.invariant-loop-period
invariant-loop-period l = l.lines.items ++ flat_map (step_stands l.spec l.files) l.period-iterator ≡ lines_of_steps l.spec l.files (l.fn.period.first, l.fn.period.last)
