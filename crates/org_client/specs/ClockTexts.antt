-- How a minute of a clock is told (profile).
use Rattle.std.specs.Prelude.{ℕ, ◌+◌, ◌/◌, ◌%◌, if◌then◌else◌, nat_le, List, [], ◌∷◌, ◌++◌}
use Rattle.org_cal.specs.Texts.{date_text, time_text}
use Rattle.org_cal.specs.declared.day.TheConstants.{LAST_DAY}
use Rattle.org_cal.specs.declared.time_of_day.TheConstants.{MINUTES_PER_DAY}

-- a minute since 0001-01-01 00:00 as a date, a space and a time; nothing behind the last day
abbrev pub clock_minute_text : ℕ → List ℕ
clock_minute_text minute =
    if nat_le (minute / MINUTES_PER_DAY + 1) LAST_DAY
    then date_text (minute / MINUTES_PER_DAY + 1) ++ 32 ∷ time_text (minute % MINUTES_PER_DAY)
    else []
