use Rattle.std.proofs.Common.{◌≡◌, ◌++◌, drop}
use Rattle.org_page.specs.Pieces.{titles_of}
use Rattle.org_page.specs.Days.{boxes_titles}
use Rattle.org_page.proofs.today.put_boxes.Given as goal

abbrev pub invariant-loop-boxed : goal.invariant-loop-boxed
invariant-loop-boxed l = titles_of l.draft.pieces.items ++ boxes_titles (drop l.boxed-index l.boxes) ≡ titles_of l.fn.draft.pieces.items ++ boxes_titles l.boxes
