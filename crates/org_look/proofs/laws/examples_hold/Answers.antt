use Rattle.std.proofs.Common.{refl}
use Rattle.unicode_width.proofs.Computing.{unicode_width}
use Rattle.org_look.proofs.laws.examples_hold.Goals as goal

pub returns : goal.returns
unfolding unicode_width
returns c = record {
  whole = refl;
  front = refl;
  wide = refl;
  accent = refl;
  narrow = refl;
  roomy = refl;
  narrow_wide = refl;
  least_line = refl;
  usual_line = refl;
  roomy_line = refl;
  spaces = refl;
  bar = refl;
  bar_cut = refl;
  full = refl;
  over = refl;
  others = refl;
  hidden_bar = refl;
  hidden_count = refl;
  lane = refl;
  second = refl;
  count = refl;
  foot = refl;
  range_goes_on = refl;
  seen_before = refl;
  two_hours = refl;
  half_an_hour = refl;
  no_end = refl;
  earlier_end = refl;
  first_free = refl;
  none_free = refl;
}
