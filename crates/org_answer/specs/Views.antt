-- The lines of views.
use Rattle.std.specs.Prelude.{◌≡◌, Bool, false, List, None, Result, IfOk, map}
use Rattle.org_agenda.specs.Days.{AgendaView}
use Rattle.org_agenda.specs.Lists.{Listing, list_rows}
use Rattle.org_agenda.specs.declared.row.Row.{Row}
use Rattle.org_inherit.specs.Scope.{Scope}
use Rattle.org_answer.specs.declared.view.Answer.{Answer}
use Rattle.org_layout.specs.Shown.{lines_of, row_line}
use Rattle.org_layout.specs.declared.shown.Line.{Line}

-- an answer of these lines, those of clock tables with efforts or without, unless it's refused
abbrev pub Answers : {E : Type 0} → Result Answer E → Bool → List Line → Type 0
Answers result with_effort lines = IfOk result (λ answer. (answer.lines.items ≡ lines) × (answer.with_effort ≡ with_effort))

-- the list of rows: a line for each
abbrev pub ShowsList : {E : Type 0} → Result Answer E → List Row → Type 0
ShowsList result rows = Answers result false (map (row_line None) rows)

-- the list of all files
abbrev pub ShowsListing : {E : Type 0} → Result Answer E → List Scope → Listing → Type 0
ShowsListing result scopes listing = ShowsList result (list_rows listing scopes)

-- an agenda: a line for each day and each row
abbrev pub ShowsAgenda : {E : Type 0} → Result Answer E → AgendaView → Type 0
ShowsAgenda result agenda = Answers result false (lines_of agenda)
