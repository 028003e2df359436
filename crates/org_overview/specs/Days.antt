-- The days of a page that come.
use Rattle.std.specs.Prelude.{◌≡◌, ℕ, List, IfOk, Result, Vec, map}
use Rattle.std.specs.List.{range_with_len}
use Rattle.org_agenda.specs.Days.{AgendaView, rows_ahead}
use Rattle.org_client.specs.Files.{NamedText}
use Rattle.org_overview.specs.Marks.{Mark, ShowsRows, marks_of, shown_marks}
use Rattle.org_overview.specs.Parts.{rows_of}
use Rattle.org_overview.specs.declared.part.Part.TheVariants.{Own}
use Rattle.org_page.specs.declared.day.Day.{Day}
use Rattle.org_page.specs.declared.row.Row.{Row}

-- the rows of a day
abbrev pub day_marks : Day → List Mark
day_marks day = shown_marks day.rows.items

-- the rows that are of the day so many days after an agenda's first
abbrev pub own_marks : List NamedText → AgendaView → ℕ → List Mark
own_marks files agenda ahead = marks_of files (rows_of Own (rows_ahead agenda ahead))

-- these, as a page shows them; a day with them; and so many days
abbrev pub ShowsOwn : {A E : Type 0} → Result (Vec Row A) E → List NamedText → AgendaView → ℕ → Type 0
ShowsOwn result files agenda ahead = ShowsRows result files (rows_of Own (rows_ahead agenda ahead))

abbrev pub ShowsDay : {E : Type 0} → Result Day E → List NamedText → AgendaView → ℕ → Type 0
ShowsDay result files agenda ahead = IfOk result (λ day. day_marks day ≡ own_marks files agenda ahead)

abbrev pub ShowsComing : {A E : Type 0} → Result (Vec Day A) E → List NamedText → AgendaView → ℕ → ℕ → Type 0
ShowsComing result files agenda from count = IfOk result (λ days. map day_marks days.items ≡ map (own_marks files agenda) (range_with_len from count))
