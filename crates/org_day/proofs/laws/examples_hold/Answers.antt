use Rattle.std.proofs.Common.{refl}
use Rattle.org_day.proofs.laws.examples_hold.Goals as goal

pub returns : goal.returns
returns c = record {
  sections = refl;
  habits = refl;
  first = refl;
  planned = refl;
  again = refl;
  late = refl;
  late_habit = refl;
  late_row = refl;
  deadline = refl;
  schedule = refl;
  soon = refl;
  start = refl;
  hidden = refl;
  dark = refl;
  light = refl;
  unknown = refl;
  plain = refl;
}
