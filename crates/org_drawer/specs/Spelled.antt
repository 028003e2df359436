-- How an effort is spelled, without the reader's steps (Org manual 9.6, "Effort Estimates"; which forms are efforts,
-- and how many digits they have: profile).
use Rattle.std.specs.Prelude.{◌≡◌, ℕ, ◌+◌, ◌*◌, ◌<◌, ◌≤◌, true, List, ◌++◌, length, codes}
use Rattle.std.specs.Str.{all_ascii_digits}
use Rattle.std.specs.Str.Parse.{digits_value}
use Rattle.org_cal.specs.Texts.{two}
use Rattle.org_stamp.specs.Spaced.{IsGap}

-- one digit or more, up to so many, and the number that they write
pub record IsNumber (most : ℕ) (digits : List ℕ) (n : ℕ) : Type 0 where
  pub some : 1 ≤ length digits
  pub few : length digits ≤ most
  pub all_digits : all_ascii_digits digits ≡ true
  pub n_is : n ≡ digits_value 10 digits

-- a unit and its minutes: a month has 30 days, a year 365 and a quarter
pub data IsUnit : List ℕ → ℕ → Type 0 where
  MinuteUnit : IsUnit (codes "min") 1
  HourUnit : IsUnit (codes "h") 60
  DayUnit : IsUnit (codes "d") 1440
  WeekUnit : IsUnit (codes "w") 10_080
  MonthUnit : IsUnit (codes "m") 43_200
  YearUnit : IsUnit (codes "y") 525_960

-- hours of up to six digits, a colon and two digits below 60; minutes of up to six digits; or a number of up to four digits,
-- white space or none, and a unit
pub data IsEffort (text : List ℕ) (minutes : ℕ) : Type 0 where
  OfHours : (digits : List ℕ) (hours m : ℕ) → text ≡ digits ++ (codes ":" ++ two m) → IsNumber 6 digits hours → m < 60 → minutes ≡ hours * 60 + m → IsEffort text minutes
  OfMinutes : IsNumber 6 text minutes → IsEffort text minutes
  OfUnits : (digits gap unit : List ℕ) (n each : ℕ) → text ≡ digits ++ (gap ++ unit) → IsNumber 4 digits n → IsGap gap → IsUnit unit each → minutes ≡ n * each → IsEffort text minutes
