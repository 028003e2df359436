-- Worked examples: what the definitions say of inputs at which a wrong rule says something else.
use Rattle.std.specs.Prelude.{◌≡◌, ℕ, Some, None, codes}
use Rattle.org_cal.specs.Added.{day_of_month, month_index}
use Rattle.org_cal.specs.Days.{day_number}
use Rattle.org_cal.specs.Pieces.{piece_end}
use Rattle.org_cal.specs.Texts.{time_at}
use Rattle.org_cal.specs.Typed.{later, signed_text, typed_day, typed_days}
use Rattle.org_cal.specs.declared.steps.Step.TheVariants.{Week}
use Rattle.org_cal.specs.declared.unit.Unit.TheVariants.{Month}

-- the last minute of a day, a month that is shorter, and a week's piece that begins inside the week (Org manual 9.6;
-- clamping: profile)
pub record ExamplesHold : Type 0 where
  pub last_minute : time_at 23 59 ≡ Some 1439
  pub no_hour_24 : time_at 24 0 ≡ None
  pub clamped : day_of_month (month_index 2024 2) 31 ≡ day_number 2024 2 29
  pub piece_to_sunday : piece_end Week (day_number 2024 3 31) (day_number 2024 2 28) ≡ day_number 2024 3 3
  pub friday : typed_day (codes "fri") (day_number 2024 2 28) ≡ Some (day_number 2024 3 1)
  pub same_weekday : typed_day (codes "wed") (day_number 2024 2 28) ≡ Some (day_number 2024 2 28)
  pub monday : typed_day (codes "mon") (day_number 2024 2 28) ≡ Some (day_number 2024 3 4)
  pub any_letters : typed_day (codes "FriDAY") (day_number 2024 2 28) ≡ Some (day_number 2024 3 1)
  pub days_alone : typed_day (codes "+3") (day_number 2024 2 28) ≡ Some (day_number 2024 3 2)
  pub end_of_month : typed_day (codes "eom") (day_number 9999 2 10) ≡ Some (day_number 9999 2 28)
  pub dotted : typed_day (codes "24.12.") (day_number 9998 2 28) ≡ Some (day_number 9998 12 24)
  pub dotted_next : typed_day (codes "1.2.") (day_number 9998 2 28) ≡ Some (day_number 9999 2 1)
  pub named : typed_day (codes "Dec 24") (day_number 9998 2 28) ≡ Some (day_number 9998 12 24)
  pub named_today : typed_day (codes "february 28") (day_number 9998 2 28) ≡ Some (day_number 9998 2 28)
  pub no_named : typed_day (codes "feb 30") (day_number 9998 2 28) ≡ None
  pub day_after : typed_day (codes "tomorrow") (day_number 2024 2 28) ≡ Some (day_number 2024 2 29)
  pub two_weeks_ago : typed_day (codes "-2w") (day_number 2024 2 28) ≡ Some (day_number 2024 2 14)
  pub ten_days_on : typed_day (codes "+10d") (day_number 2024 2 28) ≡ Some (day_number 2024 3 9)
  pub months_on : (day : ℕ) → signed_text (codes "+3m") day ≡ later Month 3 day
  pub no_day_before : typed_day (codes "-1d") (day_number 1 1 1) ≡ None
  pub no_day_of_hours : (day : ℕ) → typed_day (codes "+3h") day ≡ None
  pub this_week : typed_days (codes "week") (day_number 2024 2 28) ≡ Some (day_number 2024 2 26, day_number 2024 3 3)
  pub week_after : typed_days (codes "nextweek") (day_number 2024 2 28) ≡ Some (day_number 2024 3 4, day_number 2024 3 10)
  pub month_typed : (today : ℕ) → typed_days (codes "2024-02") today ≡ Some (day_number 2024 2 1, day_number 2024 2 29)
