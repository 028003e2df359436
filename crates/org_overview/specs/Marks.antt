-- By what a row of a page is known: how it stands, when, and of which stamp.
use Rattle.std.specs.Prelude.{◌≡◌, ℕ, ◌+◌, ◌-◌, ◌^◌, min, List, Option, None, Some, IfOk, Result, Vec, map}
use Rattle.org_agenda.specs.declared.row.Row.{Row}
use Rattle.org_agenda.specs.declared.row.RowKind.{RowKind}
use Rattle.org_agenda.specs.declared.row.RowKind.TheVariants.{Listed, OnDay, InRange, OnSchedule, LateSchedule, OnDeadline, Warning, LateDeadline}
use Rattle.org_client.specs.Files.{NamedText}
use Rattle.org_client.specs.Places.{place_in}
use Rattle.org_page.specs.declared.row.Hours.{Hours}
use Rattle.org_page.specs.declared.row.Row.{Row as PageRow}
use Rattle.org_page.specs.declared.row.Stand.{Stand}
use Rattle.org_page.specs.declared.row.Stand.TheVariants.{Own, Due, Planned, Range, Late, Soon}
use Rattle.org_page.specs.declared.row.StampPlace.{StampPlace}
use Rattle.org_store.specs.declared.place.Place.{Place}

-- how a row stands, when, and of which stamp it is, by its file and its byte there; of a list's row, by that of its heading
pub record Mark : Type 0 where
  pub stand : Stand
  pub time : Option Hours
  pub stamp : StampPlace

abbrev pub shown_mark : PageRow → Mark
shown_mark row = record { stand = row.stand; time = row.time; stamp = row.stamp }

abbrev pub shown_marks : List PageRow → List Mark
shown_marks rows = map shown_mark rows

-- how a row of a kind with two numbers stands
abbrev pub stand_of : RowKind → ℕ → ℕ → Stand
stand_of Listed number of = Own
stand_of OnDay number of = Own
stand_of InRange number of = Range number of
stand_of OnSchedule number of = Planned
stand_of LateSchedule number of = Late number
stand_of OnDeadline number of = Due
stand_of Warning number of = Soon number
stand_of LateDeadline number of = Late number

-- what begins has hours, which may have an end
abbrev pub hours_of : Option ℕ → Option ℕ → Option Hours
hours_of None end = None
hours_of (Some start) end = Some (record { start = start; end = end })

-- the byte of a file at which a stamp stands, by where its section begins
abbrev pub byte_of : Option Place → ℕ → ℕ
byte_of None stamp_at = stamp_at
byte_of (Some place) stamp_at = min (stamp_at + place.at) (2 ^ 64 - 1)

abbrev pub stamp_of : List NamedText → Row → StampPlace
stamp_of files row = record { file = row.file; at = byte_of (place_in files row.file row.heading) row.stamp_at }

-- the same of a row of an agenda or a list
abbrev pub mark_of : List NamedText → Row → Mark
mark_of files row = record { stand = stand_of row.kind row.number row.of; time = hours_of row.start row.end; stamp = stamp_of files row }

abbrev pub marks_of : List NamedText → List Row → List Mark
marks_of files rows = map (mark_of files) rows

-- these rows, as a page shows them, in their order
abbrev pub ShowsRows : {A E : Type 0} → Result (Vec PageRow A) E → List NamedText → List Row → Type 0
ShowsRows result files rows = IfOk result (λ shown. shown_marks shown.items ≡ marks_of files rows)

abbrev pub ShowsRow : {E : Type 0} → Result PageRow E → List NamedText → Row → Type 0
ShowsRow result files row = IfOk result (λ shown. shown_mark shown ≡ mark_of files row)
