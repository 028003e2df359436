-- The content lines of a calendar (RFC 5545, 3.4, "iCalendar Object", 3.6.1, "Event Component", and 3.6.2, "To-Do Component").
use Rattle.std.specs.Prelude.{ℕ, ◌+◌, List, [], ◌∷◌, ◌++◌, Option, None, Some, codes, map}
use Rattle.std.specs.Option.{option_map}
use Rattle.org_ical.specs.Alarms.{wanted_alarm}
use Rattle.org_ical.specs.Properties.{end_lines, priority_lines, stamp_line, text_line, when_line}
use Rattle.org_ical.specs.Recurrences.{event_dates, rule_lines}
use Rattle.org_ical.specs.Uids.{times_in, uid_text}
use Rattle.org_ical.specs.Words.{WordsText, words_lines, words_text}
use Rattle.org_ical.specs.declared.calendar.Calendar.{Calendar}
use Rattle.org_ical.specs.declared.component.Component.{Component}
use Rattle.org_ical.specs.declared.component.Kind.{Kind}
use Rattle.org_ical.specs.declared.component.Kind.TheVariants.{Event, Task}
use Rattle.org_ical.specs.declared.component.Shown.{Shown}
use Rattle.org_ical.specs.declared.component.Status.{Status}
use Rattle.org_ical.specs.declared.component.Status.TheVariants.{Cancelled, Confirmed}
use Rattle.org_ical.specs.declared.date.Date.{Date}
use Rattle.org_ical.specs.declared.date.Time.{Time}

-- what is written of a component, by its texts
pub record ShownText : Type 0 where
  pub kind : Kind
  pub more : List Date
  pub words : WordsText
  pub alarm : Option ℕ

abbrev pub shown_text : Shown → ShownText
shown_text shown = record {
  kind = shown.kind;
  more = shown.more.items;
  words = words_text shown.words;
  alarm = shown.alarm;
}

-- a component by its texts
pub record ComponentText : Type 0 where
  pub key : List ℕ
  pub shown : Option ShownText

abbrev pub component_text : Component → ComponentText
component_text component = record {
  key = component.key.items;
  shown = option_map shown_text component.shown;
}

-- how a component begins and ends
abbrev pub begin_line : Kind → List ℕ
begin_line (Event when rule status) = codes "BEGIN:VEVENT"
begin_line (Task due priority) = codes "BEGIN:VTODO"

abbrev pub end_line : Kind → List ℕ
end_line (Event when rule status) = codes "END:VEVENT"
end_line (Task due priority) = codes "END:VTODO"

-- when an event is and how often, and when a task is due
abbrev pub times_lines : Kind → List (List ℕ)
times_lines (Event when rule status) = when_line (codes "DTSTART") when ∷ end_lines when ++ rule_lines rule
times_lines (Task due priority) = when_line (codes "DUE") due ∷ []

abbrev pub status_line : Status → List ℕ
status_line Confirmed = codes "STATUS:CONFIRMED"
status_line Cancelled = codes "STATUS:CANCELLED"

-- how things stand with it; a task is open
abbrev pub state_lines : Kind → List (List ℕ)
state_lines (Event when rule status) = status_line status ∷ []
state_lines (Task due priority) = priority_lines priority ++ codes "STATUS:NEEDS-ACTION" ∷ []

-- what is written of a component of a unique name, with the line that says when the calendar is made
abbrev pub lines_of_shown : List ℕ → List ℕ → ShownText → List (List ℕ)
lines_of_shown stamp uid shown =
    begin_line shown.kind ∷ text_line (codes "UID") uid ∷ stamp
    ∷ times_lines shown.kind
    ++ (event_dates shown.kind shown.more
    ++ (words_lines shown.words
    ++ (state_lines shown.kind ++ (wanted_alarm shown.kind shown.words.summary shown.alarm ++ end_line shown.kind ∷ []))))

-- nothing is written of one that only counts among those of its key
abbrev pub lines_if : List ℕ → List ℕ → Option ShownText → List (List ℕ)
lines_if stamp uid None = []
lines_if stamp uid (Some shown) = lines_of_shown stamp uid shown

abbrev pub component_lines : List ℕ → List ℕ → ComponentText → List (List ℕ)
component_lines stamp uid component = lines_if stamp uid component.shown

abbrev pub shown_lines : List ℕ → List ℕ → Shown → List (List ℕ)
shown_lines stamp uid shown = lines_of_shown stamp uid (shown_text shown)

-- components, where some keys came before: of equal keys each has a number of its own
abbrev pub components_lines : List ℕ → List (List ℕ) → List ComponentText → List (List ℕ)
components_lines stamp seen [] = []
components_lines stamp seen (component ∷ components) =
    component_lines stamp (uid_text component.key (times_in component.key seen + 1)) component
    ++ components_lines stamp (component.key ∷ seen) components

-- the same of a component, and of some of which none came before
abbrev pub own_lines : List ℕ → List ℕ → Component → List (List ℕ)
own_lines stamp uid component = component_lines stamp uid (component_text component)

abbrev pub all_lines : List ℕ → List Component → List (List ℕ)
all_lines stamp components = components_lines stamp [] (map component_text components)

-- a calendar that is made at a time, with its components in their order
abbrev pub lines_of : Date → Time → List ComponentText → List (List ℕ)
lines_of date time components =
    codes "BEGIN:VCALENDAR" ∷ codes "VERSION:2.0" ∷ codes "PRODID:-//orgviews//orgq//EN"
    ∷ components_lines (stamp_line date time) [] components ++ codes "END:VCALENDAR" ∷ []

abbrev pub calendar_lines : Calendar → List (List ℕ)
calendar_lines calendar = lines_of calendar.date calendar.time (map component_text calendar.components.items)
