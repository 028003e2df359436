-- Stamps as components of a calendar (RFC 5545, 3.6.1, "Event Component", and 3.6.2, "To-Do Component"; what becomes one, and
-- what it is known by: profile).
-- Characters by their codes: 45 minus, 47 slash, 58 colon.
use Rattle.std.specs.Prelude.{◌≡◌, ℕ, ◌+◌, ◌-◌, ◌==◌, ◌&&◌, ◌||◌, Bool, true, false, nat_lt, if◌then◌else◌, List, [], ◌∷◌, ◌++◌, Option, None, Some, IfOk, OnOk, Result, Vec, bytes_eq, codes, filter, map, slice_get}
use Rattle.std.specs.Option.{option_map}
use Rattle.std.specs.List.{flat_map}
use Rattle.org_agenda.specs.Begins.{begin_days}
use Rattle.org_agenda.specs.declared.source.HeadingStamp.{HeadingStamp}
use Rattle.org_base.specs.Properties.{value_in}
use Rattle.org_base.specs.Spans.{bytes_in}
use Rattle.org_entry.specs.Keyword.{keyword_in}
use Rattle.org_entry.specs.declared.active.Role.{Role}
use Rattle.org_entry.specs.declared.active.Role.TheVariants.{Deadline, Plain, Scheduled}
use Rattle.org_entry.specs.declared.entry.Entry.{Entry}
use Rattle.org_head.specs.declared.head.Head.{Head}
use Rattle.org_ical.specs.Components.{ComponentText, ShownText, component_text, shown_text}
use Rattle.org_ical.specs.Words.{WordsText, words_text}
use Rattle.org_ical.specs.declared.component.Component.{Component}
use Rattle.org_ical.specs.declared.component.Kind.{Kind}
use Rattle.org_ical.specs.declared.component.Kind.TheVariants.{Event, Task}
use Rattle.org_ical.specs.declared.component.Shown.{Shown}
use Rattle.org_ical.specs.declared.component.Status.{Status}
use Rattle.org_ical.specs.declared.component.Status.TheVariants.{Cancelled, Confirmed}
use Rattle.org_ical.specs.declared.date.When.{When}
use Rattle.org_ical.specs.declared.rule.Rule.{Rule}
use Rattle.org_ical.specs.declared.words.Words.{Words}
use Rattle.org_inherit.specs.Priorities.{cookie_of}
use Rattle.org_inherit.specs.Scope.{Scope}
use Rattle.org_inherit.specs.declared.headings.Heading.{Heading as FoundHeading}
use Rattle.org_inherit.specs.Tags.{all_tags}
use Rattle.org_client.specs.EventRules.{more_dates, rule_of, start_of}
use Rattle.org_client.specs.EventTimes.{days_before, days_more, has_time, single_when, when_from}
use Rattle.org_client.specs.TitleWords.{title_words}
use Rattle.org_client.specs.declared.components.CalendarDays.{CalendarDays}

-- a stamp is the deadline of an open heading
abbrev pub is_deadline : Role → Bool
is_deadline Deadline = true
is_deadline _ = false

abbrev pub is_task : HeadingStamp → Bool
is_task stamp = is_deadline stamp.role && stamp.owner.is_open

-- the deadlines of open headings, in the order of stamps
abbrev pub task_stamps : List HeadingStamp → List HeadingStamp
task_stamps stamps = filter is_task stamps

-- the name of a file without the folders that it lies in, where a part of it was passed
abbrev pub name_behind : List ℕ → List ℕ → List ℕ
name_behind name [] = name
name_behind name (byte ∷ bytes) = name_behind (if byte == 47 then bytes else name) bytes

abbrev pub base_name : List ℕ → List ℕ
base_name path = name_behind path path

-- what a heading is known by: its own property ID, if that says anything, else the name of its file and the words of its title
abbrev pub known_by : Option (List ℕ) → List ℕ → List ℕ → List ℕ
known_by None file title = base_name file ++ 58 ∷ title
known_by (Some []) file title = base_name file ++ 58 ∷ title
known_by (Some (byte ∷ bytes)) file title = byte ∷ bytes

abbrev pub heading_key : Scope → Entry → Head → List ℕ
heading_key scope e head = known_by (value_in e.details.drawer (codes "ID")) scope.file (title_words (bytes_in e.text head.title))

-- what a heading and some words more are known by
abbrev pub key_of : Scope → Entry → Head → List ℕ → List ℕ
key_of scope e head more = heading_key scope e head ++ 45 ∷ more

-- what a property of a heading says; nothing where there is none
abbrev pub own_text : Option (List ℕ) → List ℕ
own_text None = []
own_text (Some text) = text

abbrev pub property_text : Entry → List ℕ → List ℕ
property_text e name = own_text (value_in e.details.drawer name)

-- what a heading says in words: its title without stamps, its tags, and the place and the description of its properties
abbrev pub heading_words : Scope → ℕ → Entry → Head → WordsText
heading_words scope i e head = record {
  summary = title_words (bytes_in e.text head.title);
  categories = all_tags scope i;
  location = property_text e (codes "LOCATION");
  description = property_text e (codes "DESCRIPTION");
}

-- an event doesn't take place where its heading's keyword says so
abbrev pub is_cancelled : List ℕ → Bool
is_cancelled keyword = bytes_eq keyword (codes "CANCELLED") || bytes_eq keyword (codes "CANCELED")

abbrev pub status_of : Option (List ℕ) → Status
status_of None = Confirmed
status_of (Some keyword) = if is_cancelled keyword then Cancelled else Confirmed

-- what tells events of a heading apart: as what its stamp stands there
abbrev pub role_word : Role → List ℕ
role_word Plain = codes "on"
role_word Scheduled = codes "scheduled"
role_word Deadline = codes "deadline"

-- one is told so many minutes before something that has a time
abbrev pub alarm_of : When → Option ℕ → Option ℕ
alarm_of when wanted = if has_time when then wanted else None

-- a heading as an event that begins on some days, of which only the first is asked where a rule gives them
abbrev pub event_at : Scope → ℕ → Entry → Head → HeadingStamp → Option ℕ → Option Rule → ℕ → List ℕ → ShownText
event_at scope i e head s alarm rule day more = record {
  kind = Event (when_from s.stamp (start_of rule s.stamp day)) rule (status_of (keyword_in e.text head));
  more = more_dates rule more;
  words = heading_words scope i e head;
  alarm = alarm_of (when_from s.stamp (start_of rule s.stamp day)) alarm;
}

-- nothing is written of one that begins on none
abbrev pub event_shown : Scope → ℕ → Entry → Head → HeadingStamp → CalendarDays → List ℕ → Option ShownText
event_shown scope i e head s asked [] = None
event_shown scope i e head s asked (day ∷ days) = Some (event_at scope i e head s asked.alarm (rule_of asked.profile s) day days)

-- the days on which it begins, of which each has it on one of those that are asked: a range may have begun before them
abbrev pub days_from : CalendarDays → HeadingStamp → ℕ → List ℕ
days_from asked s from = begin_days asked.profile s from (asked.first + asked.count - from)

abbrev pub event_days : CalendarDays → HeadingStamp → List ℕ
event_days asked s = days_from asked s (days_before asked.first (days_more s.stamp s.stamp.last))

-- a stamp of a heading as an event, known by as what it stands there
abbrev pub event_component : Scope → ℕ → Entry → Head → CalendarDays → HeadingStamp → ComponentText
event_component scope i e head asked s = record {
  key = key_of scope e head (role_word s.role);
  shown = event_shown scope i e head s asked (event_days asked s);
}

-- the priority of a cookie: A, B and C are 1, 5 and 9, and a number from 1 to 9 is itself
abbrev pub priority_of_byte : ℕ → Option ℕ
priority_of_byte byte =
    if byte == 65 then Some 1
    else (if byte == 66 then Some 5
    else (if byte == 67 then Some 9 else (if nat_lt 48 byte && nat_lt byte 58 then Some (byte - 48) else None)))

abbrev pub priority_of_cookie : Option (List ℕ) → Option ℕ
priority_of_cookie (Some (byte ∷ [])) = priority_of_byte byte
priority_of_cookie _ = None

-- the deadline of a heading as a task
abbrev pub task_at : Scope → ℕ → Entry → Head → Option ℕ → When → ShownText
task_at scope i e head alarm due = record {
  kind = Task due (priority_of_cookie (cookie_of e.text head));
  more = [];
  words = heading_words scope i e head;
  alarm = alarm_of due alarm;
}

abbrev pub task_component : Scope → ℕ → Entry → Head → CalendarDays → HeadingStamp → ComponentText
task_component scope i e head asked s = record {
  key = key_of scope e head (codes "due");
  shown = Some (task_at scope i e head asked.alarm (single_when s.stamp.time None s.stamp.day));
}

-- what is made of the heading at a place of a file; nothing where there is none
abbrev pub of_head : (Scope → ℕ → Entry → Head → ComponentText) → Scope → ℕ → Entry → Option Head → List ComponentText
of_head make scope i e None = []
of_head make scope i e (Some head) = make scope i e head ∷ []

abbrev pub of_entry : (Scope → ℕ → Entry → Head → ComponentText) → Scope → ℕ → Option Entry → List ComponentText
of_entry make scope i None = []
of_entry make scope i (Some e) = of_head make scope i e e.head

abbrev pub of_scope : (Scope → ℕ → Entry → Head → ComponentText) → Option Scope → ℕ → List ComponentText
of_scope make None i = []
of_scope make (Some scope) i = of_entry make scope i (slice_get scope.entries i)

abbrev pub of_heading : (Scope → ℕ → Entry → Head → ComponentText) → List Scope → ℕ → ℕ → List ComponentText
of_heading make scopes file i = of_scope make (slice_get scopes file) i

-- a stamp as an event, and a deadline as a task
abbrev pub event_of : List Scope → CalendarDays → HeadingStamp → List ComponentText
event_of scopes asked s = of_heading (λ scope i e head. event_component scope i e head asked s) scopes s.owner.file s.owner.heading

abbrev pub task_of : List Scope → CalendarDays → HeadingStamp → List ComponentText
task_of scopes asked s = of_heading (λ scope i e head. task_component scope i e head asked s) scopes s.owner.file s.owner.heading

-- the events of some stamps, and the tasks of some
abbrev pub events_of : List Scope → CalendarDays → List HeadingStamp → List ComponentText
events_of scopes asked stamps = flat_map (event_of scopes asked) stamps

abbrev pub tasks_of : List Scope → CalendarDays → List HeadingStamp → List ComponentText
tasks_of scopes asked stamps = flat_map (task_of scopes asked) stamps

-- components of these texts after those of a vector, unless memory is refused
abbrev pub AddsComponents : {T A E : Type 0} → Result T E → Vec Component A → Vec Component A → List ComponentText → Type 0
AddsComponents result old new texts = OnOk result (map component_text new.items ≡ map component_text old.items ++ texts)

-- a component of these texts, unless memory is refused; the same of what is written of one, and of its words
abbrev pub GivesComponent : {E : Type 0} → Result Component E → ComponentText → Type 0
GivesComponent result text = IfOk result (λ component. component_text component ≡ text)

abbrev pub GivesShown : {E : Type 0} → Result Shown E → ShownText → Type 0
GivesShown result text = IfOk result (λ shown. shown_text shown ≡ text)

abbrev pub GivesShownIf : {E : Type 0} → Result (Option Shown) E → Option ShownText → Type 0
GivesShownIf result text = IfOk result (λ shown. option_map shown_text shown ≡ text)

abbrev pub GivesWords : {E : Type 0} → Result Words E → WordsText → Type 0
GivesWords result text = IfOk result (λ words. words_text words ≡ text)

-- the same of a heading that was found
abbrev pub found_key : FoundHeading → List ℕ
found_key heading = heading_key heading.inherit.now heading.entry.now heading.head.now

abbrev pub found_words : FoundHeading → WordsText
found_words heading = heading_words heading.inherit.now heading.place heading.entry.now heading.head.now

abbrev pub found_event : FoundHeading → CalendarDays → HeadingStamp → ComponentText
found_event heading asked s = event_component heading.inherit.now heading.place heading.entry.now heading.head.now asked s

abbrev pub found_shown : FoundHeading → CalendarDays → HeadingStamp → List ℕ → Option ShownText
found_shown heading asked s days = event_shown heading.inherit.now heading.place heading.entry.now heading.head.now s asked days

abbrev pub found_task : FoundHeading → CalendarDays → HeadingStamp → ComponentText
found_task heading asked s = task_component heading.inherit.now heading.place heading.entry.now heading.head.now asked s

abbrev pub found_task_at : FoundHeading → Option ℕ → When → ShownText
found_task_at heading alarm due = task_at heading.inherit.now heading.place heading.entry.now heading.head.now alarm due

-- components of these texts, unless it's refused
abbrev pub GivesComponents : {A E : Type 0} → Result (Vec Component A) E → List ComponentText → Type 0
GivesComponents result texts = IfOk result (λ components. map component_text components.items ≡ texts)
