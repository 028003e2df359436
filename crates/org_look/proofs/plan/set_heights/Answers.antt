-- A cell of another height has the same labels.
use Rattle.std.proofs.Common.{◌∙◌, refl}
use Rattle.std.proofs.Math.Seq.{map-set_same}
use Rattle.org_look.specs.Weeks.{cell_labels}
use Rattle.org_look.proofs.plan.set_heights.Goals as goal

pub loop-cell-preserved : goal.loop-cell-preserved
loop-cell-preserved c = map-set_same cell_labels c.loop-cell.cell-items c.loop-cell.cell-index _ c.cell-item.result refl ∙ c.loop-cell.invariant
