use Rattle.std.proofs.Common.{◌≡◌}
use Rattle.org_page.specs.Pieces.{titles_of}
use Rattle.org_page.proofs.clocked.put_file_heads.Given as goal

abbrev pub invariant-loop-file : goal.invariant-loop-file
invariant-loop-file l = titles_of l.draft.pieces.items ≡ titles_of l.fn.draft.pieces.items
