-- Clocks and their minutes (Org Syntax, "Clocks"; that only the minutes within a period count, and that a missing time
-- is 00:00: profile).
use Rattle.std.specs.Prelude.{ℕ, ◌+◌, ◌-◌, min, max, Bool, ◌&&◌, nat_le, nat_lt, List, Option}
use Rattle.std.specs.Option.{option_map, option_map_or}
use Rattle.org_cal.specs.Minutes.{minute_of, minute_at}
use Rattle.org_stamp.specs.Pair.{clock_stamp}
use Rattle.org_drawer.specs.declared.clock.ClockLine.{ClockLine}

-- the clock of a clock line; none where the line is no clock line
abbrev pub clock_of : List ℕ → Option ClockLine
clock_of line = option_map (λ s. record { from = minute_at (s.day, s.time); to = option_map minute_at s.last }) (clock_stamp line)

-- the minute lies in a clock that runs from one minute up to another
abbrev pub runs_at : ℕ → ℕ → ℕ → Bool
runs_at from to minute = nat_le from minute && nat_lt minute to

-- how many minutes two stretches have in common, each up to its end
abbrev pub common_minutes : ℕ → ℕ → ℕ → ℕ → ℕ
common_minutes from to first past = min to past - max from first

-- the minutes that a clock has from the beginning of a first day to the end of a last one; a running clock has none
abbrev pub minutes_in : ClockLine → ℕ × ℕ → ℕ
minutes_in clock (first, last) = option_map_or (λ to. common_minutes clock.from to (minute_of first 0) (minute_of (last + 1) 0)) clock.to 0
