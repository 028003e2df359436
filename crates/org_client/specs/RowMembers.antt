-- What the members of a row say (names of members: profile).
use Rattle.std.specs.Prelude.{ℕ, ◌+◌, ◌-◌, ◌^◌, if◌then◌else◌, min, is_some, List, [], ◌++◌, Option, None, Some, codes}
use Rattle.org_agenda.specs.declared.row.Row.{Row}
use Rattle.org_agenda.specs.declared.row.RowKind.{RowKind}
use Rattle.org_agenda.specs.declared.row.RowKind.TheVariants.{Listed, OnDay, InRange, OnSchedule, LateSchedule, OnDeadline, Warning, LateDeadline}
use Rattle.org_client.specs.Files.{NamedText}
use Rattle.org_client.specs.HeadingMembers.{heading_members, whole_members}
use Rattle.org_client.specs.Headings.{by_place}
use Rattle.org_client.specs.LinePlaces.{line_place_in}
use Rattle.org_client.specs.Members.{date_member, number_member_of, time_member}
use Rattle.org_client.specs.LogMembers.{event_name, log_members}
use Rattle.org_client.specs.PlaceMembers.{file_member, minute_member}
use Rattle.org_client.specs.Places.{place_in}
use Rattle.org_client.specs.Report.{ReportView}
use Rattle.org_client.specs.declared.line_starts.LinePlace.{LinePlace}
use Rattle.org_client.specs.declared.rows.ShownClock.{ShownClock}
use Rattle.org_client.specs.declared.rows.ShownSum.{ShownSum}
use Rattle.org_client.specs.declared.rows.ViewRow.{ViewRow}
use Rattle.org_client.specs.declared.rows.ViewRow.TheVariants as view
use Rattle.org_clocktable.specs.declared.row.Of.{Of}
use Rattle.org_clocktable.specs.declared.row.Of.TheVariants as of
use Rattle.org_clocktable.specs.declared.row.TableRow.{TableRow}
use Rattle.org_inherit.specs.Scope.{Scope}
use Rattle.org_layout.specs.declared.shown.ShownRow.{ShownRow}
use Rattle.org_store.specs.declared.place.Place.{Place}

-- the name of a kind of rows of days and lists
abbrev pub kind_name : RowKind → List ℕ
kind_name Listed = codes "listed"
kind_name OnDay = codes "stamp"
kind_name InRange = codes "range"
kind_name OnSchedule = codes "scheduled"
kind_name LateSchedule = codes "late-scheduled"
kind_name OnDeadline = codes "deadline"
kind_name Warning = codes "warning"
kind_name LateDeadline = codes "late-deadline"

-- of those of a clock table
abbrev pub sum_name : Of → List ℕ
sum_name of.All = codes "total"
sum_name (of.File file) = codes "file"
sum_name (of.Heading file place level) = codes "heading"

-- of any row
abbrev pub kind_of : ViewRow → List ℕ
kind_of (view.Row shown) = kind_name shown.row.kind
kind_of (view.Sum shown) = sum_name shown.row.of
kind_of (view.Clock shown) = codes "clock"
kind_of (view.Log row) = event_name row.entry.event

-- the days of a late row or a warning, the numbers of a range
abbrev pub number_members : Option (List ℕ) → RowKind → ℕ → ℕ → List ℕ
number_members only InRange number of = number_member_of only (codes "day_of") number ++ number_member_of only (codes "days_in") of
number_members only LateSchedule number of = number_member_of only (codes "days") number
number_members only Warning number of = number_member_of only (codes "days") number
number_members only LateDeadline number of = number_member_of only (codes "days") number
number_members only _ number of = []

abbrev pub row_numbers : Option (List ℕ) → Row → List ℕ
row_numbers only row = number_members only row.kind row.number row.of

-- when a row is
abbrev pub when_members : Option (List ℕ) → ShownRow → List ℕ
when_members only shown =
    date_member only (codes "day") shown.day
    ++ time_member only (codes "start") shown.row.start
    ++ time_member only (codes "end") shown.row.end
    ++ row_numbers only shown.row

-- a place of a file
abbrev pub line_members : Option (List ℕ) → List NamedText → ℕ → Place → List ℕ
line_members only files file place =
    file_member only files file ++ number_member_of only (codes "line") place.line ++ number_member_of only (codes "byte") place.at

abbrev pub place_members_of : Option (List ℕ) → List NamedText → ℕ → Option Place → List ℕ
place_members_of only files file None = []
place_members_of only files file (Some place) = line_members only files file place

-- where a section begins, if it is there
abbrev pub place_members : Option (List ℕ) → List NamedText → ℕ → ℕ → List ℕ
place_members only files file heading = place_members_of only files file (place_in files file heading)

-- the line of a stamp, and the byte of that line
abbrev pub stamp_line_members : Option (List ℕ) → Option LinePlace → List ℕ
stamp_line_members only None = []
stamp_line_members only (Some place) =
    number_member_of only (codes "stamp_line") place.line ++ number_member_of only (codes "stamp_column") place.column

abbrev pub stamp_line_in : Option (List ℕ) → List (List ℕ) → ℕ → ℕ → List ℕ
stamp_line_in only starts file at = stamp_line_members only (line_place_in starts file at)

-- the byte of a stamp, its line, and the byte of that line
abbrev pub byte_members : Option (List ℕ) → List (List ℕ) → ℕ → ℕ → List ℕ
byte_members only starts file at = number_member_of only (codes "stamp") at ++ stamp_line_in only starts file at

-- the byte of a file where a stamp stands, by its heading's place
abbrev pub stamp_byte : Place → ℕ → ℕ
stamp_byte place stamp_at = min (place.at + stamp_at) (2 ^ 64 - 1)

abbrev pub stamp_members_of : Option (List ℕ) → List (List ℕ) → Row → Option Place → List ℕ
stamp_members_of only starts row None = []
stamp_members_of only starts row (Some place) = byte_members only starts row.file (stamp_byte place row.stamp_at)

-- where the stamp of a row stands
abbrev pub stamp_members : Option (List ℕ) → ReportView → Row → List ℕ
stamp_members only report row = stamp_members_of only report.starts row (place_in report.files row.file row.heading)

-- what the heading of a row says
abbrev pub said_members : Option (List ℕ) → List Scope → Row → List ℕ
said_members only scopes row = by_place [] (whole_members only) scopes row.file row.heading

-- the same of a heading's line alone
abbrev pub members_at : Option (List ℕ) → List Scope → ℕ → ℕ → List ℕ
members_at only scopes file place = by_place [] (heading_members only) scopes file place

-- where the stamp of a day's row stands
abbrev pub stamp_if : Option (List ℕ) → ReportView → ShownRow → List ℕ
stamp_if only report shown = if is_some shown.day then stamp_members only report shown.row else []

-- a row of a list or of a day
abbrev pub row_members : Option (List ℕ) → ReportView → ShownRow → List ℕ
row_members only report shown =
    when_members only shown
    ++ place_members only report.files shown.row.file shown.row.heading
    ++ stamp_if only report shown
    ++ said_members only report.scopes shown.row

-- what a row of a clock table is of
abbrev pub of_members : Option (List ℕ) → ReportView → Of → List ℕ
of_members only report of.All = []
of_members only report (of.File file) = file_member only report.files file
of_members only report (of.Heading file place level) =
    place_members only report.files file place ++ members_at only report.scopes file place

-- the first and the last day of a step
abbrev pub step_members : Option (List ℕ) → ShownSum → List ℕ
step_members only shown = date_member only (codes "from") (Some shown.first) ++ date_member only (codes "to") (Some shown.last)

-- the sums of clocks and efforts
abbrev pub minutes_members : Option (List ℕ) → TableRow → List ℕ
minutes_members only row = number_member_of only (codes "clock") row.clock ++ number_member_of only (codes "effort") row.effort

-- a row of a clock table
abbrev pub sum_members : Option (List ℕ) → ReportView → ShownSum → List ℕ
sum_members only report shown = step_members only shown ++ minutes_members only shown.row ++ of_members only report shown.row.of

-- a clock line
abbrev pub clock_members : Option (List ℕ) → ReportView → ShownClock → List ℕ
clock_members only report shown =
    minute_member only (codes "from") (Some shown.row.from)
    ++ minute_member only (codes "to") shown.row.to
    ++ number_member_of only (codes "minutes") shown.row.minutes
    ++ line_members only report.files shown.row.file shown.place
    ++ members_at only report.scopes shown.row.file shown.row.heading

-- any row
abbrev pub members_of : Option (List ℕ) → ReportView → ViewRow → List ℕ
members_of only report (view.Row shown) = row_members only report shown
members_of only report (view.Sum shown) = sum_members only report shown
members_of only report (view.Clock shown) = clock_members only report shown
members_of only report (view.Log row) = log_members only report row
