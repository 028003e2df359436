-- The weeks so far.
use Rattle.std.proofs.Common.{◌≡◌, map}
use Rattle.org_answer.specs.Pictures.{day_stands, stands_of_weeks}
use Rattle.org_answer.proofs.picture.all_weeks.Given as goal

abbrev pub invariant-loop-week : goal.invariant-loop-week
invariant-loop-week l = map (λ week. map day_stands week.days.items) l.weeks.items ≡ stands_of_weeks l.agenda l.week
