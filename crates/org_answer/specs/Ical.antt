-- Stamps and deadlines as a calendar (RFC 5545; what becomes a component: profile).
use Rattle.std.specs.Prelude.{◌≡◌, ℕ, ◌+◌, ◌-◌, ◌==◌, ◌++◌, Bool, if◌then◌else◌, IfOk, List, [], ◌∷◌, Option, None, Result, Some, Vec, is_some, map, take}
use Rattle.std.specs.List.{list_any}
use Rattle.org_cal.specs.declared.moment.Moment.{Moment}
use Rattle.org_client.specs.Components.{events_of, task_stamps, tasks_of}
use Rattle.org_client.specs.EventTimes.{date_of, time_of}
use Rattle.org_client.specs.declared.components.CalendarDays.{CalendarDays}
use Rattle.org_ical.specs.Components.{ComponentText, component_text, lines_of}
use Rattle.org_ical.specs.Lines.{written}
use Rattle.org_ical.specs.declared.component.Component.{Component}
use Rattle.org_inherit.specs.Scope.{Scope}
use Rattle.org_answer.specs.Chosen.{chosen_sources}
use Rattle.org_answer.specs.declared.ical.Ical.{Ical}
use Rattle.org_answer.specs.declared.ical.IcalQuery.{IcalQuery}
use Rattle.org_answer.specs.declared.view.Chosen.{Chosen}

-- the days of a calendar, and how long before one is told, as they are asked
abbrev pub calendar_days : Chosen → IcalQuery → CalendarDays
calendar_days chosen asked = record {
  profile = chosen.as_of.profile;
  first = asked.days.first;
  count = asked.days.count;
  alarm = asked.alarm;
}

-- first the events of the stamps that are chosen, then the tasks of those that are deadlines of open headings
abbrev pub all_components : List Scope → Chosen → IcalQuery → List ComponentText
all_components scopes chosen asked =
    events_of scopes (calendar_days chosen asked) (chosen_sources chosen scopes)
    ++ tasks_of scopes (calendar_days chosen asked) (task_stamps (chosen_sources chosen scopes))

-- whether a component is written, and whether one is
abbrev pub is_told : ComponentText → Bool
is_told component = is_some component.shown

abbrev pub has_any : List ComponentText → Bool
has_any components = list_any is_told components

-- how many components stand in front of one that is written behind so many that are
abbrev pub told_length : ℕ → List ComponentText → ℕ
told_length count [] = 0
told_length count (c ∷ cs) = if is_told c then (if count == 0 then 0 else 1 + told_length (count - 1) cs) else 1 + told_length count cs

-- the first components of which so many are written, or all
abbrev pub some_components : Option ℕ → List ComponentText → List ComponentText
some_components None all = all
some_components (Some count) all = take (told_length count all) all

abbrev pub shown_components : List Scope → Chosen → IcalQuery → Option ℕ → List ComponentText
shown_components scopes chosen asked limit = some_components limit (all_components scopes chosen asked)

-- of components the first are left of which so many are written, or all
abbrev pub IsCutTo : {A : Type 0} → Vec Component A → Vec Component A → Option ℕ → Type 0
IsCutTo old new limit = map component_text new.items ≡ some_components limit (map component_text old.items)

-- the content lines of a calendar of components that is made at a moment
abbrev pub calendar_at : Moment → List ComponentText → List (List ℕ)
calendar_at moment components = lines_of (date_of moment.day) (time_of moment.minute) components

-- components are written as a calendar that is made at a moment
pub record IsIcal (moment : Moment) (components : List ComponentText) (ical : Ical) : Type 0 where
  pub bytes : ical.bytes.items ≡ written (calendar_at moment components)
  pub has : ical.has_component ≡ has_any components

-- the first so many components of some days are
abbrev pub GivesIcal : {E : Type 0} → Result Ical E → List Scope → Chosen → IcalQuery → Option ℕ → Type 0
GivesIcal result scopes chosen asked limit = IfOk result (IsIcal asked.made (shown_components scopes chosen asked limit))
