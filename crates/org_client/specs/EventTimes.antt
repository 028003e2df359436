-- When what stamps stand for is, as calendars have it (RFC 5545, 3.8.2.4, "Date-Time Start", and 3.8.2.2, "Date-Time End").
use Rattle.std.specs.Prelude.{ℕ, ◌+◌, ◌-◌, ◌/◌, ◌%◌, ◌==◌, ◌&&◌, ◌||◌, Bool, true, false, nat_le, nat_lt, if◌then◌else◌, Option, None, Some}
use Rattle.org_cal.specs.Parts.{month_day_of, month_of, year_of}
use Rattle.org_cal.specs.declared.day.TheConstants.{LAST_DAY}
use Rattle.org_ical.specs.declared.date.Date.{Date}
use Rattle.org_ical.specs.declared.date.Time.{Time}
use Rattle.org_ical.specs.declared.date.When.{When}
use Rattle.org_ical.specs.declared.date.When.TheVariants.{At, Between, Day, Days}
use Rattle.org_stamp.specs.declared.stamp.Stamp.{Stamp}

-- a day and a time of it, by their numbers
abbrev pub date_of : ℕ → Date
date_of day = record { year = year_of day; month = month_of day; day = month_day_of day }

abbrev pub time_of : ℕ → Time
time_of minutes = record { hour = minutes / 60; minute = minutes % 60 }

-- the day so many days later, if the calendar has it
abbrev pub day_ahead : ℕ → ℕ → Option ℕ
day_ahead day ahead = if nat_le (day + ahead) LAST_DAY then Some (day + ahead) else None

-- from a time of a day on, or all of it
abbrev pub from_time : Option ℕ → ℕ → When
from_time None day = Day (date_of day)
from_time (Some start) day = At (date_of day) (time_of start)

-- from a time of a day to a time of another
abbrev pub between : ℕ → ℕ → ℕ → ℕ → When
between day start last end = Between (date_of day) (time_of start) (date_of last) (time_of end)

-- the same, where there is the other day
abbrev pub to_time : ℕ → ℕ → Option ℕ → ℕ → When
to_time day start None end = from_time (Some start) day
to_time day start (Some last) end = between day start last end

-- hours of a day: an end before the start is one of the next day, and one at the start says nothing
abbrev pub hours_when : ℕ → ℕ → ℕ → When
hours_when start end day =
    if nat_lt start end then between day start day end
    else (if nat_lt end start then to_time day start (day_ahead day 1) end else from_time (Some start) day)

-- a stamp that is no range, where it begins on a day
abbrev pub single_when : Option ℕ → Option ℕ → ℕ → When
single_when None end day = from_time None day
single_when (Some start) None day = from_time (Some start) day
single_when (Some start) (Some end) day = hours_when start end day

-- all days of a range, where there is the day behind them
abbrev pub to_day : ℕ → Option ℕ → When
to_day day None = from_time None day
to_day day (Some behind) = Days (date_of day) (date_of behind)

-- a range from a day to another: without a start it has all of its days, and without an end all of the last one
abbrev pub range_when : Option ℕ → Option ℕ → ℕ → ℕ → When
range_when None end day last = if nat_lt day last then to_day day (day_ahead last 1) else from_time None day
range_when (Some start) None day last = if nat_lt day last then to_time day start (day_ahead last 1) 0 else from_time (Some start) day
range_when (Some start) (Some end) day last =
    if nat_lt day last || nat_lt start end then between day start last end else from_time (Some start) day

-- the same, where the calendar has the last day
abbrev pub copy_when : Option ℕ → Option ℕ → ℕ → Option ℕ → When
copy_when start end day None = from_time start day
copy_when start end day (Some last) = range_when start end day last

-- when what a stamp stands for is, where it begins on a day: a range is as long as the one that is written
abbrev pub when_by : Stamp → Option (ℕ × Option ℕ) → ℕ → When
when_by s None day = single_when s.time s.end_time day
when_by s (Some last) day = copy_when s.time last.1 day (day_ahead day (last.0 - s.day))

abbrev pub when_from : Stamp → ℕ → When
when_from s day = when_by s s.last day

-- it has a time of day
abbrev pub has_time : When → Bool
has_time (Day day) = false
has_time (Days day behind) = false
has_time (At day time) = true
has_time (Between day time last end) = true

-- how many days more than one it has
abbrev pub days_more : Stamp → Option (ℕ × Option ℕ) → ℕ
days_more s None = 0
days_more s (Some last) = last.0 - s.day

-- the day so many days before another, or the first of all
abbrev pub days_before : ℕ → ℕ → ℕ
days_before day before = if nat_lt before day then day - before else 1
