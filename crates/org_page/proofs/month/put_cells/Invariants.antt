use Rattle.std.proofs.Common.{◌≡◌, ◌++◌, drop}
use Rattle.org_page.specs.Pieces.{titles_of}
use Rattle.org_page.specs.Days.{cells_titles}
use Rattle.org_page.proofs.month.put_cells.Given as goal

abbrev pub invariant-loop-day : goal.invariant-loop-day
invariant-loop-day l = titles_of l.draft.pieces.items ++ cells_titles (drop l.day-index l.days) ≡ titles_of l.fn.draft.pieces.items ++ cells_titles l.days
