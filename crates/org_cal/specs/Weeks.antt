-- Weeks of a year (ISO 8601): a week begins on Monday and belongs to the year of its Thursday.
use Rattle.std.specs.Prelude.{ℕ, ◌+◌, ◌-◌, ◌/◌}
use Rattle.org_cal.specs.Days.{day_number}
use Rattle.org_cal.specs.Parts.{weekday_of, year_of}

-- the Monday of the day's week
abbrev pub monday_of : ℕ → ℕ
monday_of day = day - weekday_of day

-- the year of a day's week, which is that of the week's Thursday
abbrev pub iso_year : ℕ → ℕ
iso_year day = year_of (monday_of day + 3)

-- the number of a day's week: that week's Thursday is the first of its year, the second, and so on
abbrev pub iso_week : ℕ → ℕ
iso_week day = (monday_of day + 3 - day_number (iso_year day) 1 1) / 7 + 1
