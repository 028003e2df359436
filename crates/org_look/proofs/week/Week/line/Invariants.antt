use Rattle.std.proofs.Common.{◌≡◌, ◌+◌, ◌*◌, ◌-◌, ◌≤◌}
use Rattle.org_look.specs.Grids.{all_columns}
use Rattle.org_look.proofs.week.Week.line.Given as goal

abbrev pub invariant-loop-column : goal.invariant-loop-column
invariant-loop-column l = record {
  within : l.column ≤ 7;
  wide : all_columns l.strips.items ≡ l.column * (l.grid.cell + 1);
}

abbrev pub decreases-loop-column : goal.decreases-loop-column
decreases-loop-column l = 7 - l.column
