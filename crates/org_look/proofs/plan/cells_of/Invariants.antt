-- The cells so far have the labels of their days.
use Rattle.std.proofs.Common.{◌≡◌, None, map, vec_len}
use Rattle.org_look.specs.Weeks.{cell_labels, days_labels}
use Rattle.org_look.proofs.plan.cells_of.Given as goal

abbrev pub invariant-loop-column : goal.invariant-loop-column
invariant-loop-column l = record {
  count : vec_len l.cells ≡ l.column;
  labels : l.plan.breaks ≡ None → map cell_labels l.cells.items ≡ days_labels l.days l.column;
}
