-- The times of what was logged (profile: a missing time of a clock is 00:00, and one that ends before it begins has no minutes).
use Rattle.std.specs.Prelude.{ℕ, ◌-◌, ◌%◌, Option, None, Some}
use Rattle.std.specs.Option.{option_and_then, option_map}
use Rattle.org_cal.specs.Minutes.{minute_at}
use Rattle.org_cal.specs.declared.time_of_day.TheConstants.{MINUTES_PER_DAY}
use Rattle.org_trace.specs.declared.entry.LogEntry.{LogEntry}
use Rattle.org_trace.specs.declared.entry.LogEvent.{LogEvent}
use Rattle.org_trace.specs.declared.entry.LogEvent.TheVariants.{Clock, Closed, State}

-- the minute at which it was
abbrev pub entry_minute : LogEntry → ℕ
entry_minute entry = minute_at (entry.day, entry.time)

-- the minute at which a clock ended
abbrev pub end_of : LogEvent → Option ℕ
end_of Closed = None
end_of (State change) = None
end_of (Clock end) = end

-- the minutes from one to another, if there is another
abbrev pub minutes_to : ℕ → Option ℕ → ℕ
minutes_to from None = 0
minutes_to from (Some end) = end - from

-- the minutes of a clock
abbrev pub entry_minutes : LogEntry → ℕ
entry_minutes entry = minutes_to (entry_minute entry) (end_of entry.event)

-- the time of day at which a clock ended, where it began at one
abbrev pub end_time : LogEntry → Option ℕ
end_time entry = option_and_then (λ (start : ℕ). option_map (λ (end : ℕ). end % MINUTES_PER_DAY) (end_of entry.event)) entry.time
