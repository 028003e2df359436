use Rattle.std.proofs.Common.{◌≡◌}
use Rattle.org_page.specs.Pieces.{titles_of}
use Rattle.org_page.proofs.month.put_day_names.Given as goal

abbrev pub invariant-loop-name : goal.invariant-loop-name
invariant-loop-name l = titles_of l.draft.pieces.items ≡ titles_of l.fn.draft.pieces.items
