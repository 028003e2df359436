-- The rows of today.
use Rattle.std.specs.Prelude.{◌≡◌, List, IfOk, Result, Vec, map}
use Rattle.org_agenda.specs.declared.row.Row.{Row}
use Rattle.org_client.specs.Files.{NamedText}
use Rattle.org_overview.specs.Marks.{Mark, marks_of, shown_mark, shown_marks}
use Rattle.org_overview.specs.Parts.{IsByNumber, rows_of}
use Rattle.org_overview.specs.declared.here.Here.{Here}
use Rattle.org_overview.specs.declared.part.Part.TheVariants.{Late, Soon, Timed, Whole}
use Rattle.org_page.specs.Places.{AreDealt}
use Rattle.org_page.specs.declared.day.Boxed.{Boxed}
use Rattle.org_page.specs.declared.day.Today.{Today}
use Rattle.org_page.specs.declared.row.Row.{Row as PageRow}

abbrev pub box_mark : Boxed → Mark
box_mark boxed = shown_mark boxed.row

-- rows without hours as they come; those with hours each once, in boxes or beside them, in both in the order in which they come
pub record ShowsToday (today : Today) (files : List NamedText) (rows : List Row) : Type 0 where
  pub whole : shown_marks today.whole.items ≡ marks_of files (rows_of Whole rows)
  pub timed : AreDealt (marks_of files (rows_of Timed rows)) (map box_mark today.boxes.items) (shown_marks today.beside.items)

-- warnings, by how far ahead their days are
pub record ShowsSoon (soon : List PageRow) (files : List NamedText) (rows : List Row) : Type 0 where
  pub sorted : List Row
  pub order : IsByNumber (rows_of Soon rows) sorted
  pub shown : shown_marks soon ≡ marks_of files sorted

-- both, and what is late
pub record ShowsHere (here : Here) (files : List NamedText) (rows : List Row) : Type 0 where
  pub today : ShowsToday here.today files rows
  pub late : shown_marks here.late.items ≡ marks_of files (rows_of Late rows)
  pub soon : ShowsSoon here.soon.items files rows

abbrev pub GivesToday : {E : Type 0} → Result Today E → List NamedText → List Row → Type 0
GivesToday result files rows = IfOk result (λ today. ShowsToday today files rows)

abbrev pub GivesSoon : {A E : Type 0} → Result (Vec PageRow A) E → List NamedText → List Row → Type 0
GivesSoon result files rows = IfOk result (λ soon. ShowsSoon soon.items files rows)

abbrev pub GivesHere : {E : Type 0} → Result Here E → List NamedText → List Row → Type 0
GivesHere result files rows = IfOk result (λ here. ShowsHere here files rows)
