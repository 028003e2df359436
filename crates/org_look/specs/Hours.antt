-- Which half hours a row touches, by the minutes of the day at which it begins and ends.
use Rattle.std.specs.Prelude.{ℕ, ◌-◌, ◌/◌, nat_lt, min, unwrap_or, if◌then◌else◌, Option}

abbrev pub first_half : ℕ → ℕ
first_half start = min start 1439 / 30

-- the last minute of a row is the one before its end; without an end that is later, a row takes the half hour of its start
abbrev pub last_half : ℕ → Option ℕ → ℕ
last_half start end = if nat_lt (min start 1439) (min (unwrap_or end 0) 1440) then (min (unwrap_or end 0) 1440 - 1) / 30 else first_half start
