-- Rows as fields between commas (Org manual 9.6, "Extracting Agenda Information").
use Rattle.std.specs.Prelude.{ℕ, ◌+◌, ◌-◌, ◌*◌, if◌then◌else◌, nat_le, nat_lt, List, [], ◌∷◌, ◌++◌, Option, None, Some, codes, decimal, drop, length, take, unwrap_or}
use Rattle.org_agenda.specs.declared.row.Row.{Row}
use Rattle.org_agenda.specs.declared.row.RowKind.{RowKind}
use Rattle.org_agenda.specs.declared.row.RowKind.TheVariants.{Listed, OnDay, InRange, OnSchedule, LateSchedule, OnDeadline, Warning, LateDeadline}
use Rattle.org_base.specs.Spans.{bytes_in}
use Rattle.org_cal.specs.Parts.{month_day_of, month_of, year_of}
use Rattle.org_cal.specs.Texts.{time_text}
use Rattle.org_cal.specs.declared.day.TheConstants.{LAST_DAY}
use Rattle.org_entry.specs.Keyword.{keyword_in}
use Rattle.org_entry.specs.declared.entry.Entry.{Entry}
use Rattle.org_head.specs.declared.head.Head.{Head}
use Rattle.org_inherit.specs.Category.{category}
use Rattle.org_inherit.specs.Priorities.{cookie_of, priority_by}
use Rattle.org_inherit.specs.Scope.{Scope}
use Rattle.org_inherit.specs.declared.headings.Heading.{Heading as FoundHeading}
use Rattle.org_inherit.specs.Tags.{all_tags, tags_text}
use Rattle.org_layout.specs.declared.shown.ShownRow.{ShownRow}
use Rattle.org_client.specs.Headings.{by_place}
use Rattle.org_client.specs.Json.{field_text}

-- a field after a comma
abbrev pub next_field : List ℕ → List ℕ
next_field text = 44 ∷ field_text text

-- the kind of a row; that of a list's rows is said by the caller
abbrev pub kind_field : RowKind → List ℕ → List ℕ
kind_field Listed list = list
kind_field OnDay list = codes "timestamp"
kind_field InRange list = codes "block"
kind_field OnSchedule list = codes "scheduled"
kind_field LateSchedule list = codes "past-scheduled"
kind_field OnDeadline list = codes "deadline"
kind_field Warning list = codes "upcoming-deadline"
kind_field LateDeadline list = codes "deadline"

-- what stands between the first byte and the last
abbrev pub between : List ℕ → List ℕ
between text = take (length text - 2) (drop 1 text)

-- the parts of a day with dashes between, none where there is no day
abbrev pub parts_field : Option ℕ → List ℕ
parts_field None = []
parts_field (Some day) = decimal (year_of day) ++ codes "-" ++ decimal (month_of day) ++ codes "-" ++ decimal (month_day_of day)

-- a day of the calendar, if it is one
abbrev pub day_if : ℕ → Option ℕ
day_if day = if nat_le day LAST_DAY then Some day else None

-- so many days before, if that is a day
abbrev pub days_before : ℕ → ℕ → Option ℕ
days_before day number = if nat_lt number day then Some (day - number) else None

-- the day that a row of a kind speaks of: its own, that of which it warns, that for which it is late
abbrev pub spoken_by : RowKind → ℕ → ℕ → Option ℕ
spoken_by Warning day number = day_if (day + number)
spoken_by LateSchedule day number = days_before day number
spoken_by LateDeadline day number = days_before day number
spoken_by _ day number = Some day

-- the same of a row; none of a list's
abbrev pub spoken_of : ShownRow → Option ℕ → Option ℕ
spoken_of shown None = None
spoken_of shown (Some day) = spoken_by shown.row.kind day shown.row.number

-- a time, if there is one; a dash and a time
abbrev pub start_field : Option ℕ → List ℕ
start_field None = []
start_field (Some time) = time_text time

abbrev pub end_field : Option ℕ → List ℕ
end_field None = []
end_field (Some time) = 45 ∷ time_text time

-- what an agenda shows before the heading
abbrev pub label_field : RowKind → ℕ → ℕ → List ℕ
label_field Listed number of = []
label_field OnDay number of = []
label_field InRange number of = codes "(" ++ decimal number ++ codes "/" ++ decimal of ++ codes "):"
label_field OnSchedule number of = codes "Scheduled:"
label_field LateSchedule number of = codes "Sched. " ++ decimal number ++ codes " d.:"
label_field OnDeadline number of = codes "Deadline:"
label_field Warning number of = codes "In " ++ decimal number ++ codes " d.:"
label_field LateDeadline number of = decimal number ++ codes " d. ago:"

-- all tags of a heading, a colon between
abbrev pub tags_field : Scope → ℕ → List ℕ
tags_field scope i = between (tags_text (all_tags scope i))

-- the date that a row speaks of, and its times
abbrev pub when_fields : ShownRow → List ℕ
when_fields shown = next_field (parts_field (spoken_of shown shown.day)) ++ next_field (start_field shown.row.start ++ end_field shown.row.end)

-- the priority as it is written, and a thousand for each step above C
abbrev pub priority_fields : Scope → Entry → Head → List ℕ
priority_fields scope e head =
    next_field (unwrap_or (cookie_of e.text head) []) ++ next_field (decimal ((67 - priority_by scope.settings (cookie_of e.text head)) * 1000))

-- the same of a heading
abbrev pub heading_priority : FoundHeading → List ℕ
heading_priority heading = priority_fields heading.inherit.now heading.entry.now heading.head.now

-- the same of a heading that is found

abbrev pub heading_tags : FoundHeading → List ℕ
heading_tags heading = tags_field heading.inherit.now heading.place

-- the label of a row
abbrev pub row_label : Row → List ℕ
row_label row = label_field row.kind row.number row.of

-- the fields of a row of the heading of an entry at a place
abbrev pub heading_fields : ShownRow → List ℕ → Scope → ℕ → Entry → Head → List ℕ
heading_fields shown list scope i e head =
    field_text (category scope i)
    ++ next_field (bytes_in e.text head.title)
    ++ next_field (kind_field shown.row.kind list)
    ++ next_field (unwrap_or (keyword_in e.text head) [])
    ++ next_field (tags_field scope i)
    ++ when_fields shown
    ++ next_field (row_label shown.row)
    ++ priority_fields scope e head
    ++ next_field (parts_field shown.day)

-- a row as fields; empty where its heading isn't there
abbrev pub row_fields : List Scope → ShownRow → List ℕ → List ℕ
row_fields scopes shown list = by_place [] (heading_fields shown list) scopes shown.row.file shown.row.heading
