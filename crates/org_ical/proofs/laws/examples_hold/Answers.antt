use Rattle.std.proofs.Common.{refl}
use Rattle.std.specs.Fmt.{digits}
use Rattle.org_ical.proofs.laws.examples_hold.Goals as goal

pub returns : goal.returns
unfolding digits
returns c = record {
  special = refl;
  others = refl;
  line_feed = refl;
  controls = refl;
  late_control = refl;
  list = refl;
  list_back = refl;
  full = refl;
  over = refl;
  uncut = refl;
  unfolded = refl;
  date = refl;
  moment = refl;
  days_end = refl;
  hours_end = refl;
  rule = refl;
  again = refl;
  days_again = refl;
  numbers = refl;
  calendar = refl;
}
