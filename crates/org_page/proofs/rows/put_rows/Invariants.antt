use Rattle.std.proofs.Common.{◌≡◌, ◌++◌, drop}
use Rattle.org_page.specs.Pieces.{titles_of}
use Rattle.org_page.specs.Rows.{rows_titles}
use Rattle.org_page.proofs.rows.put_rows.Given as goal

abbrev pub invariant-loop-row : goal.invariant-loop-row
invariant-loop-row l = titles_of l.draft.pieces.items ++ rows_titles (drop l.row-index l.rows) ≡ titles_of l.fn.draft.pieces.items ++ rows_titles l.rows
