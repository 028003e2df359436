-- Days and times as they are written (RFC 5545, 3.3.4, "Date", and 3.3.5, "Date-Time", in its first form, which has no zone).
-- Characters by their codes: 48 0, 84 T, 90 Z.
use Rattle.std.specs.Prelude.{ℕ, ◌+◌, ◌/◌, ◌%◌, List, [], ◌∷◌, ◌++◌, codes}
use Rattle.org_ical.specs.declared.date.Date.{Date}
use Rattle.org_ical.specs.declared.date.Time.{Time}
use Rattle.org_ical.specs.declared.date.When.{When}
use Rattle.org_ical.specs.declared.date.When.TheVariants.{At, Between, Day, Days}

-- the last digit of a number, the last two and the last four
abbrev pub digit : ℕ → ℕ
digit number = 48 + number % 10

abbrev pub two : ℕ → List ℕ
two number = digit (number / 10) ∷ digit number ∷ []

abbrev pub four : ℕ → List ℕ
four number = two (number / 100) ++ two number

abbrev pub date_text : Date → List ℕ
date_text date = four date.year ++ two date.month ++ two date.day

-- a time of a day, in whatever zone its reader is
abbrev pub moment_text : Date → Time → List ℕ
moment_text date time = date_text date ++ 84 ∷ two time.hour ++ two time.minute ++ codes "00"

-- the same as something, where it begins on another day; only its beginning is asked
abbrev pub on_date : Date → When → When
on_date date (Day day) = Day date
on_date date (Days day behind) = Day date
on_date date (At day time) = At date time
on_date date (Between day time last end) = At date time
