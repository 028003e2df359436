-- Minutes of civil time (profile).
use Rattle.std.specs.Prelude.{ℕ, ◌+◌, ◌-◌, ◌*◌, Option}
use Rattle.std.specs.Option.{unwrap_or}
use Rattle.org_cal.specs.declared.time_of_day.TheConstants.{MINUTES_PER_DAY}

-- the minutes from 0001-01-01 00:00 to a time of a day
abbrev pub minute_of : ℕ → ℕ → ℕ
minute_of day time = (day - 1) * MINUTES_PER_DAY + time

-- the minute of a day and a time of it; a missing time is 00:00
abbrev pub minute_at : ℕ × Option ℕ → ℕ
minute_at (day, time) = minute_of day (unwrap_or time 0)
