-- Rows of clock tables and clock lines as fields between commas (profile).
use Rattle.std.specs.Prelude.{ℕ, List, [], ◌∷◌, ◌++◌, Option, None, Some, decimal, replicate, slice_get}
use Rattle.org_base.specs.Spans.{bytes_in}
use Rattle.org_cal.specs.Texts.{date_text}
use Rattle.org_client.specs.ClockTexts.{clock_minute_text}
use Rattle.org_client.specs.Fields.{next_field, row_fields, tags_field}
use Rattle.org_client.specs.Files.{NamedText}
use Rattle.org_client.specs.Headings.{by_place}
use Rattle.org_client.specs.Json.{field_text}
use Rattle.org_client.specs.LogFields.{log_fields}
use Rattle.org_client.specs.Places.{place_in}
use Rattle.org_client.specs.Report.{ReportView}
use Rattle.org_client.specs.declared.rows.ShownClock.{ShownClock}
use Rattle.org_client.specs.declared.rows.ShownSum.{ShownSum}
use Rattle.org_client.specs.declared.rows.ViewRow.{ViewRow}
use Rattle.org_client.specs.declared.rows.ViewRow.TheVariants as view
use Rattle.org_clocktable.specs.declared.row.Of.{Of}
use Rattle.org_clocktable.specs.declared.row.Of.TheVariants as of
use Rattle.org_entry.specs.declared.entry.Entry.{Entry}
use Rattle.org_head.specs.declared.head.Head.{Head}
use Rattle.org_inherit.specs.Scope.{Scope}
use Rattle.org_inherit.specs.declared.headings.Heading.{Heading as FoundHeading}
use Rattle.org_layout.specs.declared.shown.ShownRow.{ShownRow}
use Rattle.org_store.specs.declared.place.Place.{Place}

-- so many fields without a text
abbrev pub empty_fields : ℕ → List ℕ
empty_fields count = replicate count 44

-- the name of a file; none where it isn't there
abbrev pub name_of : Option NamedText → List ℕ
name_of None = []
name_of (Some named) = named.name

abbrev pub name_field : List NamedText → ℕ → List ℕ
name_field files file = next_field (name_of (slice_get files file))

-- the line on which a section begins; none where it isn't there
abbrev pub line_text : Option Place → List ℕ
line_text None = []
line_text (Some place) = decimal place.line

-- level, title and tags of a heading
abbrev pub said_fields : Scope → ℕ → Entry → Head → List ℕ
said_fields scope i e head =
    next_field (decimal head.level) ++ next_field (bytes_in e.text head.title) ++ next_field (tags_field scope i)

abbrev pub said_fields_of : FoundHeading → List ℕ
said_fields_of h = said_fields h.inherit.now h.place h.entry.now h.head.now

-- the same at a place; without texts where no heading is there
abbrev pub said_at : List Scope → ℕ → ℕ → List ℕ
said_at scopes file place = by_place (empty_fields 3) said_fields scopes file place

-- line, level, title and tags at a place
abbrev pub place_fields : ReportView → ℕ → ℕ → List ℕ
place_fields report file place = next_field (line_text (place_in report.files file place)) ++ said_at report.scopes file place

-- what a row of a clock table is of: file, line, level, title, tags
abbrev pub of_fields : ReportView → Of → List ℕ
of_fields report of.All = empty_fields 5
of_fields report (of.File file) = name_field report.files file ++ empty_fields 4
of_fields report (of.Heading file place level) =
    name_field report.files file ++ place_fields report file place

-- a row of a clock table
abbrev pub sum_fields : ReportView → ShownSum → List ℕ
sum_fields report shown =
    field_text (date_text shown.first)
    ++ next_field (date_text shown.last)
    ++ of_fields report shown.row.of
    ++ next_field (decimal shown.row.clock)
    ++ next_field (decimal shown.row.effort)

-- a minute, if there is one
abbrev pub minute_text : Option ℕ → List ℕ
minute_text None = []
minute_text (Some minute) = clock_minute_text minute

-- a clock line
abbrev pub clock_fields : ReportView → ShownClock → List ℕ
clock_fields report shown =
    field_text (minute_text (Some shown.row.from))
    ++ next_field (minute_text shown.row.to)
    ++ name_field report.files shown.row.file
    ++ next_field (decimal shown.place.line)
    ++ said_at report.scopes shown.row.file shown.row.heading
    ++ next_field (decimal shown.row.minutes)

-- any row
abbrev pub fields_of : ReportView → ViewRow → List ℕ → List ℕ
fields_of report (view.Row shown) list = row_fields report.scopes shown list
fields_of report (view.Sum shown) list = sum_fields report shown
fields_of report (view.Clock shown) list = clock_fields report shown
fields_of report (view.Log row) list = log_fields report.scopes row
