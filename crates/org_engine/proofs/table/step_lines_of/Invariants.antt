-- The lines of the steps so far, and of those that are left, are all.
use Rattle.std.proofs.Common.{◌≡◌, ◌++◌}
use Rattle.std.specs.List.{flat_map}
use Rattle.org_clocktable.specs.Table.{step_rows}
use Rattle.org_layout.specs.Shown.{step_lines_shown}
use Rattle.org_engine.specs.Places.{steps_shown}
use Rattle.org_engine.proofs.table.step_lines_of.Given as goal

abbrev pub invariant-loop-period : goal.invariant-loop-period
invariant-loop-period l =
    l.lines.items ++ flat_map (λ days. step_lines_shown days (step_rows days l.spec.most l.files)) l.period-iterator ≡ steps_shown l.spec l.files
