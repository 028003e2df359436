-- Alarms (RFC 5545, 3.6.6, "Alarm Component", and 3.8.6.3, "Trigger").
-- Characters by their codes: 77 M.
use Rattle.std.specs.Prelude.{ℕ, List, [], ◌∷◌, ◌++◌, Option, None, Some, codes, decimal}
use Rattle.org_ical.specs.Properties.{property, text_line}
use Rattle.org_ical.specs.declared.component.Kind.{Kind}
use Rattle.org_ical.specs.declared.component.Kind.TheVariants.{Event, Task}
use Rattle.org_ical.specs.declared.component.Shown.{Shown}

-- what an alarm counts from: when an event begins, when a task is due
abbrev pub trigger_name : Kind → List ℕ
trigger_name (Event when rule status) = codes "TRIGGER"
trigger_name (Task due priority) = codes "TRIGGER;RELATED=END"

-- so many minutes before
abbrev pub trigger_line : Kind → ℕ → List ℕ
trigger_line kind minutes = property (trigger_name kind) (codes "-PT" ++ (decimal minutes ++ 77 ∷ []))

abbrev pub alarm_lines : List ℕ → List ℕ → List (List ℕ)
alarm_lines summary trigger =
    codes "BEGIN:VALARM" ∷ codes "ACTION:DISPLAY" ∷ text_line (codes "DESCRIPTION") summary ∷ trigger ∷ codes "END:VALARM" ∷ []

-- the alarm of something of a kind, if one is wanted
abbrev pub wanted_alarm : Kind → List ℕ → Option ℕ → List (List ℕ)
wanted_alarm kind summary None = []
wanted_alarm kind summary (Some minutes) = alarm_lines summary (trigger_line kind minutes)

abbrev pub own_alarm : Shown → List (List ℕ)
own_alarm shown = wanted_alarm shown.kind shown.words.summary.items shown.alarm
