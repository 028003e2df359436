use Rattle.std.proofs.Common.{◌≡◌}
use Rattle.org_page.specs.Pieces.{titles_of}
use Rattle.org_page.proofs.plot.put_week.Given as goal

abbrev pub invariant-loop-day : goal.invariant-loop-day
invariant-loop-day l = titles_of l.draft.pieces.items ≡ titles_of l.fn.draft.pieces.items
