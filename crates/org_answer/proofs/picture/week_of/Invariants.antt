-- The days so far.
use Rattle.std.proofs.Common.{◌≡◌, map}
use Rattle.org_answer.specs.Pictures.{day_stands, stands_from}
use Rattle.org_answer.proofs.picture.week_of.Given as goal

abbrev pub invariant-loop-place : goal.invariant-loop-place
invariant-loop-place l = map day_stands l.days.items ≡ stands_from l.agenda l.first l.place
