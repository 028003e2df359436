-- What a line of a section logs (Org manual 9.6, "Progress Logging"; "Clocking commands").
use Rattle.std.specs.Prelude.{ℕ, if◌then◌else◌, List, Option, None, Some}
use Rattle.std.specs.Option.{option_and_then, option_map}
use Rattle.org_base.specs.declared.span.Span.{Span}
use Rattle.org_cal.specs.Minutes.{minute_at}
use Rattle.org_class.specs.declared.class.Class.{Class}
use Rattle.org_class.specs.declared.class.Class.TheVariants.{Clock as ClockLine, Plain, Planning}
use Rattle.org_drawer.specs.Planning.{planning_of}
use Rattle.org_settings.specs.Keywords.{Keyword}
use Rattle.org_stamp.specs.Line.{stamps_of}
use Rattle.org_stamp.specs.Pair.{clock_stamp}
use Rattle.org_stamp.specs.declared.stamp.Stamp.{Stamp}
use Rattle.org_trace.specs.State.{first_inactive, state_change}
use Rattle.org_trace.specs.declared.entry.LogEntry.{LogEntry}
use Rattle.org_trace.specs.declared.entry.LogEvent.{LogEvent}
use Rattle.org_trace.specs.declared.entry.LogEvent.TheVariants.{Clock, Closed, State}

-- something at the time of a stamp
abbrev pub entry_at : LogEvent → Stamp → LogEntry
entry_at event stamp = record { day = stamp.day; time = stamp.time; event = event }

-- what stands under `CLOSED`, if it is inactive
abbrev pub closed_of : Option (Stamp × Span) → Option LogEntry
closed_of None = None
closed_of (Some found) = if found.0.active then None else Some (entry_at Closed found.0)

-- a planning line, by what stands there
abbrev pub closed_entry : List ℕ → Option LogEntry
closed_entry line = option_and_then (λ p. closed_of p.closed) (planning_of line)

-- the stamp of a clock line: on the day on which it begins, up to its end
abbrev pub clock_of : Stamp → LogEntry
clock_of stamp = entry_at (Clock (option_map minute_at stamp.last)) stamp

abbrev pub clock_entry : List ℕ → Option LogEntry
clock_entry line = option_map clock_of (clock_stamp line)

-- a line that says that a keyword changed, at its first inactive stamp
abbrev pub state_entry : List Keyword → List ℕ → Option LogEntry
state_entry ks line =
    option_and_then (λ change. option_map (entry_at (State change)) (first_inactive (stamps_of line))) (state_change ks line)

-- what a line of a class logs
abbrev pub line_entry : List Keyword → Class → List ℕ → Option LogEntry
line_entry ks Planning line = closed_entry line
line_entry ks ClockLine line = clock_entry line
line_entry ks Plain line = state_entry ks line
line_entry ks _ line = None
