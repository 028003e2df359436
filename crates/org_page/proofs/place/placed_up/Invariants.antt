-- Rows that are left, and those that are placed.
use Rattle.std.proofs.Common.{length}
use Rattle.org_page.proofs.PlaceLemmas.{ArePlaced}
use Rattle.org_page.proofs.place.placed_up.Given as goal

abbrev pub invariant-loop-row : goal.invariant-loop-row
invariant-loop-row l = ArePlaced l.fn.rows.items l.rows.items l.placed.boxes.items l.placed.beside.items

abbrev pub decreases-loop-row : goal.decreases-loop-row
decreases-loop-row l = length l.rows.items
