use Rattle.std.proofs.Common.{◌≡◌}
use Rattle.org_page.specs.Pieces.{titles_of}
use Rattle.org_page.proofs.clocked.put_weeks.Given as goal

abbrev pub invariant-loop-week : goal.invariant-loop-week
invariant-loop-week l = titles_of l.draft.pieces.items ≡ titles_of l.fn.draft.pieces.items
