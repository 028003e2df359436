-- What the members of a row of a log say (names of members: profile).
use Rattle.std.specs.Prelude.{ℕ, List, [], ◌++◌, Option, None, Some, codes}
use Rattle.org_client.specs.Headings.{by_place}
use Rattle.org_client.specs.HeadingMembers.{whole_members, whole_members_of}
use Rattle.org_client.specs.LinePlaces.{line_place_in}
use Rattle.org_client.specs.Members.{date_member, number_member_of, text_member_of, time_member}
use Rattle.org_client.specs.PlaceMembers.{file_member, minute_member}
use Rattle.org_client.specs.Report.{ReportView}
use Rattle.org_client.specs.declared.line_starts.LinePlace.{LinePlace}
use Rattle.org_entry.specs.declared.entry.Entry.{Entry}
use Rattle.org_head.specs.declared.head.Head.{Head}
use Rattle.org_inherit.specs.Scope.{Scope}
use Rattle.org_inherit.specs.declared.headings.Heading.{Heading as FoundHeading}
use Rattle.org_settings.specs.Keywords.{Keyword, keyword_word}
use Rattle.org_trace.specs.Times.{end_time, entry_minute, entry_minutes}
use Rattle.org_trace.specs.declared.entry.LogEntry.{LogEntry}
use Rattle.org_trace.specs.declared.entry.LogEvent.{LogEvent}
use Rattle.org_trace.specs.declared.entry.StateChange.{StateChange}
use Rattle.org_trace.specs.declared.entry.LogEvent.TheVariants.{Clock, Closed, State}
use Rattle.org_trace.specs.declared.row.LogRow.{LogRow}

-- the name of a kind
abbrev pub event_name : LogEvent → List ℕ
event_name Closed = codes "closed"
event_name (State change) = codes "state"
event_name (Clock end) = codes "clock"

-- when a clock began and ended, and the minutes between
abbrev pub of_clock : Option (List ℕ) → LogEntry → Option ℕ → List ℕ
of_clock only entry end =
    minute_member only (codes "from") (Some (entry_minute entry))
    ++ minute_member only (codes "to") end
    ++ number_member_of only (codes "minutes") (entry_minutes entry)

abbrev pub clocked_members : Option (List ℕ) → LogEntry → LogEvent → List ℕ
clocked_members only entry Closed = []
clocked_members only entry (State change) = []
clocked_members only entry (Clock end) = of_clock only entry end

-- when something was logged
abbrev pub log_when_members : Option (List ℕ) → LogEntry → List ℕ
log_when_members only entry =
    date_member only (codes "day") (Some entry.day)
    ++ time_member only (codes "start") entry.time
    ++ time_member only (codes "end") (end_time entry)
    ++ clocked_members only entry entry.event

-- the line of a byte, where lines are known
abbrev pub number_of_line : Option (List ℕ) → Option LinePlace → List ℕ
number_of_line only None = []
number_of_line only (Some place) = number_member_of only (codes "line") place.line

abbrev pub line_member : Option (List ℕ) → List (List ℕ) → LogRow → List ℕ
line_member only starts row = number_of_line only (line_place_in starts row.file row.at)

-- where the line stands
abbrev pub log_line_members : Option (List ℕ) → ReportView → LogRow → List ℕ
log_line_members only report row =
    file_member only report.files row.file
    ++ line_member only report.starts row
    ++ number_member_of only (codes "byte") row.at

-- the keyword that a heading had
abbrev pub before_member : Option (List ℕ) → List Keyword → Option ℕ → List ℕ
before_member only ks None = []
before_member only ks (Some place) = text_member_of only (codes "state_before") (keyword_word ks place)

-- and the one that it got
abbrev pub of_change : Option (List ℕ) → List Keyword → StateChange → List ℕ
of_change only ks change =
    text_member_of only (codes "state") (keyword_word ks change.to) ++ before_member only ks change.from

abbrev pub change_members : Option (List ℕ) → List Keyword → LogEvent → List ℕ
change_members only ks Closed = []
change_members only ks (State change) = of_change only ks change
change_members only ks (Clock end) = []

-- what a row says of a heading, and what the heading says
abbrev pub said_of_log : Option (List ℕ) → LogEvent → Scope → ℕ → Entry → Head → List ℕ
said_of_log only event scope i e head = change_members only scope.settings.keywords event ++ whole_members only scope i e head

abbrev pub logged_members : Option (List ℕ) → List Scope → LogRow → List ℕ
logged_members only scopes row = by_place [] (said_of_log only row.entry.event) scopes row.file row.heading

abbrev pub logged_members_of : Option (List ℕ) → LogEvent → FoundHeading → List ℕ
logged_members_of only event h = change_members only h.inherit.now.settings.keywords event ++ whole_members_of only h

-- all of it
abbrev pub log_members : Option (List ℕ) → ReportView → LogRow → List ℕ
log_members only report row =
    log_when_members only row.entry ++ log_line_members only report row ++ logged_members only report.scopes row
