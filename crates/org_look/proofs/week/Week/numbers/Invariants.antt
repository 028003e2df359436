use Rattle.std.proofs.Common.{◌≡◌, ◌+◌, ◌*◌}
use Rattle.org_look.specs.Grids.{all_columns}
use Rattle.org_look.proofs.week.Week.numbers.Given as goal

abbrev pub invariant-loop-cell : goal.invariant-loop-cell
invariant-loop-cell l = all_columns l.strips.items ≡ l.cell-index * (l.grid.cell + 1)
