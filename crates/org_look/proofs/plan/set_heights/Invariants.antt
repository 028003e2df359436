-- The cells keep their labels.
use Rattle.std.proofs.Common.{◌≡◌, map}
use Rattle.org_look.specs.Weeks.{cell_labels}
use Rattle.org_look.proofs.plan.set_heights.Given as goal

abbrev pub invariant-loop-cell : goal.invariant-loop-cell
invariant-loop-cell l = map cell_labels l.cell-items ≡ map cell_labels l.fn.cells.items
