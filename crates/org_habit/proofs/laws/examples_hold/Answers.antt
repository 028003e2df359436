use Rattle.std.proofs.Common.{refl}
use Rattle.org_habit.proofs.laws.examples_hold.Goals as goal

pub returns : goal.returns
returns c = record {
  months = refl;
  years = refl;
  hours = refl;
  weeks = refl;
  no_limit = refl;
  limit_by_hours = refl;
  equal_limit = refl;
  no_day = refl;
  before = refl;
  planned = refl;
  last = refl;
  last_done = refl;
  past_done = refl;
  single = refl;
}
