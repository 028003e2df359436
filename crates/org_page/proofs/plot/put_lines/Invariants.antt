use Rattle.std.proofs.Common.{◌≡◌}
use Rattle.org_page.specs.Pieces.{titles_of}
use Rattle.org_page.proofs.plot.put_lines.Given as goal

abbrev pub invariant-loop-line : goal.invariant-loop-line
invariant-loop-line l = titles_of l.draft.pieces.items ≡ titles_of l.fn.draft.pieces.items
