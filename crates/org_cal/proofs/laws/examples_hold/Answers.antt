use Rattle.std.proofs.Common.{refl}
use Rattle.jiff_core.specs.Calendar.{day_count, days_of_months, days_of_years}
use Rattle.org_cal.specs.Parts.{greatest, month_day_of, month_of, year_of}
use Rattle.org_cal.proofs.laws.examples_hold.Goals as goal

pub returns : goal.returns
unfolding day_count days_of_months days_of_years year_of month_of month_day_of greatest
returns c = record {
  last_minute = refl;
  no_hour_24 = refl;
  clamped = refl;
  piece_to_sunday = refl;
  friday = refl;
  same_weekday = refl;
  monday = refl;
  any_letters = refl;
  days_alone = refl;
  end_of_month = refl;
  dotted = refl;
  dotted_next = refl;
  named = refl;
  named_today = refl;
  no_named = refl;
  day_after = refl;
  two_weeks_ago = refl;
  ten_days_on = refl;
  months_on = λ day. refl;
  no_day_before = refl;
  no_day_of_hours = λ day. refl;
  this_week = refl;
  week_after = refl;
  month_typed = λ today. refl;
}
