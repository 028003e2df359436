-- Which entries of a log are asked for, and of which sections (profile).
use Rattle.std.specs.Prelude.{ℕ, Bool, false, ◌&&◌, nat_le, List, slice_get, unwrap_or}
use Rattle.org_cal.specs.declared.period.Period.{Period}
use Rattle.org_trace.specs.declared.entry.LogEntry.{LogEntry}
use Rattle.org_trace.specs.declared.entry.LogEvent.{LogEvent}
use Rattle.org_trace.specs.declared.entry.LogEvent.TheVariants.{Clock, Closed, State}
use Rattle.org_trace.specs.declared.row.LogQuery.{LogQuery}

-- it is of a day from the first to the last
abbrev pub is_of_days : Period → LogEntry → Bool
is_of_days period entry = nat_le period.first entry.day && nat_le entry.day period.last

-- it is of one of the kinds
abbrev pub is_of_kinds : LogQuery → LogEvent → Bool
is_of_kinds asked Closed = asked.closed
is_of_kinds asked (State change) = asked.states
is_of_kinds asked (Clock end) = asked.clocks

abbrev pub is_asked : LogQuery → LogEntry → Bool
is_asked asked entry = is_of_days asked.period entry && is_of_kinds asked entry.event

-- the rows of the section at a place are shown
abbrev pub is_shown : List Bool → ℕ → Bool
is_shown shown heading = unwrap_or (slice_get shown heading) false
