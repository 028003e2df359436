-- Rows of a log as fields between commas (Org manual 9.6, "Extracting Agenda Information").
use Rattle.std.specs.Prelude.{ℕ, List, [], ◌++◌, Option, None, Some, unwrap_or}
use Rattle.org_base.specs.Spans.{bytes_in}
use Rattle.org_base.specs.Words.{trim_end}
use Rattle.org_client.specs.Fields.{end_field, next_field, parts_field, priority_fields, start_field, tags_field}
use Rattle.org_client.specs.Headings.{by_place}
use Rattle.org_client.specs.Json.{field_text}
use Rattle.org_client.specs.LogLabels.{log_label}
use Rattle.org_client.specs.LogMembers.{event_name}
use Rattle.org_entry.specs.Keyword.{keyword_in}
use Rattle.org_entry.specs.declared.entry.Entry.{Entry}
use Rattle.org_head.specs.declared.head.Head.{Head}
use Rattle.org_inherit.specs.Category.{category}
use Rattle.org_inherit.specs.Scope.{Scope}
use Rattle.org_inherit.specs.declared.headings.Heading.{Heading as FoundHeading}
use Rattle.org_settings.specs.Keywords.{Keyword}
use Rattle.org_trace.specs.Times.{end_time}
use Rattle.org_trace.specs.declared.entry.LogEntry.{LogEntry}
use Rattle.org_trace.specs.declared.row.LogRow.{LogRow}

-- when it was, and a dash and the end of a clock
abbrev pub log_times : LogEntry → List ℕ
log_times entry = start_field entry.time ++ end_field (end_time entry)

-- what stands before the heading, without white space behind it
abbrev pub label_field : List Keyword → LogEntry → List ℕ
label_field ks entry = next_field (trim_end (log_label ks entry entry.event))

abbrev pub heading_label : FoundHeading → LogEntry → List ℕ
heading_label h entry = label_field h.inherit.now.settings.keywords entry

-- the fields of what was logged of a heading: what is said of the heading, and of when it was
abbrev pub log_front : LogEntry → Scope → ℕ → Entry → Head → List ℕ
log_front entry scope i e head =
    field_text (category scope i)
    ++ next_field (bytes_in e.text head.title)
    ++ next_field (event_name entry.event)
    ++ next_field (unwrap_or (keyword_in e.text head) [])
    ++ next_field (tags_field scope i)

abbrev pub log_back : LogEntry → Scope → ℕ → Entry → Head → List ℕ
log_back entry scope i e head =
    next_field (parts_field (Some entry.day))
    ++ next_field (log_times entry)
    ++ label_field scope.settings.keywords entry
    ++ priority_fields scope e head
    ++ next_field (parts_field (Some entry.day))

abbrev pub heading_log : LogEntry → Scope → ℕ → Entry → Head → List ℕ
heading_log entry scope i e head = log_front entry scope i e head ++ log_back entry scope i e head

-- of one that was found
abbrev pub found_front : FoundHeading → LogEntry → List ℕ
found_front h entry = log_front entry h.inherit.now h.place h.entry.now h.head.now

abbrev pub found_back : FoundHeading → LogEntry → List ℕ
found_back h entry = log_back entry h.inherit.now h.place h.entry.now h.head.now

abbrev pub found_log : FoundHeading → LogEntry → List ℕ
found_log h entry = found_front h entry ++ found_back h entry

-- the same of a row; empty where its heading isn't there
abbrev pub log_fields : List Scope → LogRow → List ℕ
log_fields scopes row = by_place [] (heading_log row.entry) scopes row.file row.heading
