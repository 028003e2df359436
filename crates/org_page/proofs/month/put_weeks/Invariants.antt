use Rattle.std.proofs.Common.{◌≡◌, ◌++◌, drop}
use Rattle.org_page.specs.Pieces.{titles_of}
use Rattle.org_page.specs.Days.{weeks_titles}
use Rattle.org_page.proofs.month.put_weeks.Given as goal

abbrev pub invariant-loop-week : goal.invariant-loop-week
invariant-loop-week l = titles_of l.draft.pieces.items ++ weeks_titles (drop l.week-index l.weeks) ≡ titles_of l.fn.draft.pieces.items ++ weeks_titles l.weeks
