-- The days of a month.
use Rattle.std.specs.Prelude.{◌≡◌, ℕ, ◌*◌, List, IfOk, Result, Vec, map}
use Rattle.std.specs.List.{flat_map, range_with_len}
use Rattle.org_agenda.specs.Days.{AgendaView, rows_ahead}
use Rattle.org_agenda.specs.declared.row.Row.{Row}
use Rattle.org_client.specs.Files.{NamedText}
use Rattle.org_overview.specs.Marks.{Mark, marks_of, shown_marks}
use Rattle.org_overview.specs.Parts.{rows_of}
use Rattle.org_overview.specs.declared.month.Cell.{Cell}
use Rattle.org_overview.specs.declared.part.Part.TheVariants.{Ranges, Single}
use Rattle.org_page.specs.declared.day.Month.{Month}
use Rattle.org_page.specs.declared.day.MonthDay.{MonthDay}
use Rattle.org_page.specs.declared.day.Week.{Week}

-- the rows of a day of a month: days of ranges, and others
abbrev pub cell_marks : MonthDay → List Mark × List Mark
cell_marks day = (shown_marks day.ranges.items, shown_marks day.rows.items)

abbrev pub week_cells : Week → List (List Mark × List Mark)
week_cells week = map cell_marks week.days.items

abbrev pub weeks_cells : List Week → List (List Mark × List Mark)
weeks_cells weeks = flat_map week_cells weeks

-- the same of rows, and of the day so many days after an agenda's first
abbrev pub parts_of : List NamedText → List Row → List Mark × List Mark
parts_of files rows = (marks_of files (rows_of Ranges rows), marks_of files (rows_of Single rows))

abbrev pub cell_of : List NamedText → AgendaView → ℕ → List Mark × List Mark
cell_of files agenda ahead = parts_of files (rows_ahead agenda ahead)

-- rows in the two parts of a cell; a day with them; a week from a day on; and so many weeks from the first day on
abbrev pub ShowsParts : {E : Type 0} → Result Cell E → List NamedText → List Row → Type 0
ShowsParts result files rows = IfOk result (λ cell. (shown_marks cell.ranges.items, shown_marks cell.rows.items) ≡ parts_of files rows)

abbrev pub ShowsCell : {E : Type 0} → Result MonthDay E → List NamedText → AgendaView → ℕ → Type 0
ShowsCell result files agenda ahead = IfOk result (λ day. cell_marks day ≡ cell_of files agenda ahead)

abbrev pub ShowsCells : {A E : Type 0} → Result (Vec MonthDay A) E → List NamedText → AgendaView → ℕ → Type 0
ShowsCells result files agenda first = IfOk result (λ days. map cell_marks days.items ≡ map (cell_of files agenda) (range_with_len first 7))

abbrev pub ShowsWeek : {E : Type 0} → Result Week E → List NamedText → AgendaView → ℕ → Type 0
ShowsWeek result files agenda first = IfOk result (λ week. week_cells week ≡ map (cell_of files agenda) (range_with_len first 7))

abbrev pub ShowsWeeks : {A E : Type 0} → Result (Vec Week A) E → List NamedText → AgendaView → ℕ → Type 0
ShowsWeeks result files agenda count = IfOk result (λ weeks. weeks_cells weeks.items ≡ map (cell_of files agenda) (range_with_len 0 (7 * count)))

abbrev pub ShowsMonth : {E : Type 0} → Result Month E → List NamedText → AgendaView → ℕ → Type 0
ShowsMonth result files agenda count = IfOk result (λ month. weeks_cells month.weeks.items ≡ map (cell_of files agenda) (range_with_len 0 (7 * count)))
