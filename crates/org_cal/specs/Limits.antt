-- The numbers of the calendar, and its minutes in a day (Gregorian calendar; which years there are: profile).
use Rattle.std.specs.Prelude.{◌≡◌}
use Rattle.org_cal.specs.Days.{day_number}
use Rattle.org_cal.specs.declared.day.TheConstants.{LAST_DAY, LAST_MONTH}
use Rattle.org_cal.specs.declared.minute.TheConstants.{CALENDAR_MINUTES}
use Rattle.org_cal.specs.declared.time_of_day.TheConstants.{MINUTES_PER_DAY}

-- the last day is 9999-12-31, the last month that of it, and a day has 24 hours of 60 minutes
pub record LimitsAreNamed : Type 0 where
  pub day : LAST_DAY ≡ 3_652_059
  pub date : LAST_DAY ≡ day_number 9999 12 31
  pub month : LAST_MONTH ≡ 119_999
  pub minutes : MINUTES_PER_DAY ≡ 1440
  pub all : CALENDAR_MINUTES ≡ 5_258_964_960
