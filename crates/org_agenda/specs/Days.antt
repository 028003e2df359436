-- The rows of a day (Org manual 9.6, "Timestamps"; "Deadlines and Scheduling"; "Weekly/daily agenda"; kinds, delays and
-- warnings: profile).
use Rattle.std.specs.Option.{option_map_or}
use Rattle.std.specs.Prelude.{◌≡◌, ℕ, ◌≤◌, ◌+◌, ◌-◌, ◌==◌, nat_lt, nat_le, Bool, true, false, not, ◌&&◌, ◌||◌, if◌then◌else◌, List, [], ◌∷◌, ◌++◌, Option, Some, None, is_none, is_some, unwrap_or, map}
use Rattle.std.specs.List.{flat_map}
use Rattle.org_base.specs.declared.profile.Profile.{Profile}
use Rattle.org_base.specs.declared.profile.Profile.TheVariants.{One, Two}
use Rattle.org_stamp.specs.declared.mark.Delay.{Delay}
use Rattle.org_stamp.specs.declared.stamp.Stamp.{Stamp}
use Rattle.org_repeat.specs.Decided.{next_after, occurs, range_start}
use Rattle.org_index.specs.Delays.{days_in, delay_or}
use Rattle.org_index.specs.declared.delays.TheConstants.{WARNING_DAYS}
use Rattle.org_agenda.specs.Lists.{Ranked, in_order}
use Rattle.org_agenda.specs.Order.{by_key}
use Rattle.org_agenda.specs.declared.days.TheConstants.{STARTS}
use Rattle.org_agenda.specs.declared.source.HeadingStamp.{HeadingStamp}
use Rattle.org_entry.specs.declared.active.Role.{Role}
use Rattle.org_entry.specs.declared.active.Role.TheVariants.{Plain, Scheduled, Deadline}
use Rattle.org_agenda.specs.declared.row.Row.{Row}
use Rattle.org_agenda.specs.declared.row.RowKind.{RowKind}
use Rattle.org_agenda.specs.declared.row.RowKind.TheVariants.{Listed, OnDay, InRange, OnSchedule, LateSchedule, OnDeadline, Warning, LateDeadline}
use Rattle.org_agenda.specs.declared.as_of.AsOf.{AsOf}

-- the stamp occurs on the day, with n days of delay: `-N` moves each occurrence, `--N` the stamp's own day alone
abbrev pub occurs_later : Profile → Bool → Stamp → ℕ → ℕ → Bool
occurs_later p true s n day = (day == s.day + n) || (not (day == s.day) && occurs p s day)
occurs_later p false s n day = nat_lt n day && occurs p s (day - n)

-- the stamp occurs on the day, moved by its delay if it has one
abbrev pub occurs_delayed : Profile → Stamp → Option Delay → ℕ → Bool
occurs_delayed p s delay day = option_map_or (λ d. occurs_later p d.first_only s (days_in d.unit d.n) day) delay (occurs p s day)

-- the day of which a deadline warns. In the first profile it is its own; in the second it is that of the next occurrence
-- after today, or 0, which is before all days, where there is none
abbrev pub due_day : Profile → Stamp → ℕ → ℕ
due_day One s today = s.day
due_day Two s today = unwrap_or (next_after s today) 0

-- the day is today, and the heading has no done keyword
abbrev pub is_due : HeadingStamp → ℕ → ℕ → Bool
is_due s today day = (day == today) && s.owner.is_open

-- the test of each kind: whether a stamp gives a row of it on a day, where the moment's day is today
abbrev pub is_shown : Profile → RowKind → HeadingStamp → ℕ → ℕ → Bool
is_shown p Listed s today day = false
is_shown p OnDay s today day = is_none s.stamp.last && occurs p s.stamp day
is_shown p InRange s today day = is_some (range_start p s.stamp day)
is_shown p OnSchedule s today day = occurs_delayed p s.stamp s.stamp.delay day
is_shown p LateSchedule s today day = is_due s today day && nat_lt (s.stamp.day + delay_or 0 s.stamp.delay) today
is_shown p OnDeadline s today day = occurs p s.stamp day
is_shown p Warning s today day =
    is_due s today day && nat_le (due_day p s.stamp today) (today + delay_or WARNING_DAYS s.stamp.delay) && nat_lt today (due_day p s.stamp today)
is_shown p LateDeadline s today day = is_due s today day && nat_lt s.stamp.day today

-- the times that a row shows of a range's copy that begins on a day. The first day shows the range's start, and its end
-- too if the range is of one day; a later last day shows the end alone. The end is the second stamp's start
abbrev pub range_times : Stamp → Option (ℕ × Option ℕ) → ℕ → ℕ → Option ℕ × Option ℕ
range_times s None begins day = (None, None)
range_times s (Some last) begins day =
    if day == begins then (s.time, (if last.0 == s.day then last.1 else None))
    else (if day + s.day == begins + last.0 then (last.1, None) else (None, None))

-- the first day of the copy of a range that a day shows; 0 where it shows none
abbrev pub shown_from : Profile → Stamp → ℕ → ℕ
shown_from p s day = unwrap_or (range_start p s day) 0

-- the times that a row of a kind shows, start and end; late rows and warnings show none
abbrev pub times : Profile → RowKind → Stamp → ℕ → Option ℕ × Option ℕ
times p OnDay s day = (s.time, s.end_time)
times p InRange s day = range_times s s.last (shown_from p s day) day
times p OnSchedule s day = (s.time, s.end_time)
times p OnDeadline s day = (s.time, s.end_time)
times p _ s day = (None, None)

-- the numbers in a range's label: day i of n days, as many as the written range has, counted from the copy's first day
abbrev pub range_numbers : Stamp → Option (ℕ × Option ℕ) → ℕ → ℕ → ℕ × ℕ
range_numbers s range begins day = option_map_or (λ last. (day - begins + 1, last.0 - s.day + 1)) range (0, 0)

-- the two numbers in the label of a kind. A range has day and number of days, a late row the days since the stamp's own
-- day, a warning the days to the one of which it warns; all others have 0
abbrev pub numbers : Profile → RowKind → Stamp → ℕ → ℕ × ℕ
numbers p InRange s day = option_map_or (λ last. (day - shown_from p s day + 1, last.0 - s.day + 1)) s.last (0, 0)
numbers p LateSchedule s day = (day - s.day, 0)
numbers p Warning s day = (due_day p s day - day, 0)
numbers p LateDeadline s day = (day - s.day, 0)
numbers p _ s day = (0, 0)

-- the row of a kind that a stamp gives on a day
abbrev pub stamp_row : Profile → RowKind → HeadingStamp → ℕ → Row
stamp_row p kind s day = record {
  kind = kind;
  start = (times p kind s.stamp day).0;
  end = (times p kind s.stamp day).1;
  number = (numbers p kind s.stamp day).0;
  of = (numbers p kind s.stamp day).1;
  file = s.owner.file;
  heading = s.owner.heading;
  stamp_at = s.stamp_at;
}

-- the row of a kind, with its heading's priority, if the stamp gives one on the day
abbrev pub kind_rows : Profile → RowKind → HeadingStamp → ℕ → ℕ → List Ranked
kind_rows p kind s today day = if is_shown p kind s today day then record { priority = s.owner.priority; row = stamp_row p kind s day } ∷ [] else []

-- a plain stamp shows its day or its range, a scheduled one when it is due or late, a deadline when it is due, warns or is late
abbrev pub role_rows : Profile → Role → HeadingStamp → ℕ → ℕ → List Ranked
role_rows p Plain s today day = kind_rows p OnDay s today day ++ kind_rows p InRange s today day
role_rows p Scheduled s today day = kind_rows p OnSchedule s today day ++ kind_rows p LateSchedule s today day
role_rows p Deadline s today day = kind_rows p OnDeadline s today day ++ (kind_rows p Warning s today day ++ kind_rows p LateDeadline s today day)

-- the rows that a stamp gives on a day
unfoldable pub source_rows : Profile → ℕ → ℕ → HeadingStamp → List Ranked
source_rows p today day s = role_rows p s.role s today day

-- the key of a start: rows with a start stand by it, and rows without one after them
abbrev pub start_key : Option ℕ → ℕ
start_key start = unwrap_or start (STARTS - 1)

-- a row under the key of its start, where else its priority stands
abbrev pub started : Row → Ranked
started row = record { priority = start_key row.start; row = row }

-- rows in the order of their starts, those without one last; those of one start keep their order
abbrev pub by_start : List Row → List Row
by_start rows = map (λ (r : Ranked). r.row) (by_key (λ (r : Ranked). r.priority) STARTS (map started rows))

-- the rows of stamps on a day: by start, then by priority, then in the order of the stamps
unfoldable pub day_rows : Profile → List HeadingStamp → ℕ → ℕ → List Row
day_rows p sources today day = by_start (in_order (flat_map (source_rows p today day) sources))

-- the agenda of some days: the profile, the stamps that it looks at, the moment's day, the first day, and how many there are
pub record AgendaView : Type 0 where
  pub profile : Profile
  pub sources : List HeadingStamp
  pub today : ℕ
  pub first : ℕ
  pub count : ℕ

-- the agenda of so many days from a first one on
abbrev pub agenda_of : Profile → List HeadingStamp → ℕ → ℕ → ℕ → AgendaView
agenda_of p sources today first count = record { profile = p; sources = sources; today = today; first = first; count = count }

-- the rows of the day so many days after an agenda's first
abbrev pub rows_ahead : AgendaView → ℕ → List Row
rows_ahead agenda ahead = day_rows agenda.profile agenda.sources agenda.today (agenda.first + ahead)

-- some stamps give the rows that all give, on each day from one to another
abbrev pub GiveAllRows : AsOf → List HeadingStamp → ℕ → ℕ → List HeadingStamp → Type 0
GiveAllRows seen all from to some = (day : ℕ) → from ≤ day → day ≤ to → day_rows seen.profile some seen.today day ≡ day_rows seen.profile all seen.today day
