-- Which rows the days of a picture have, and how they stand there.
use Rattle.std.specs.Prelude.{◌≡◌, ℕ, ◌*◌, ◌/◌, List, Result, IfOk, Vec, map}
use Rattle.std.specs.List.{range_with_len}
use Rattle.org_agenda.specs.Days.{AgendaView, rows_ahead}
use Rattle.org_agenda.specs.declared.row.Row.{Row}
use Rattle.org_agenda.specs.declared.row.RowKind.{RowKind}
use Rattle.org_agenda.specs.declared.row.RowKind.TheVariants.{InRange, LateSchedule, Warning, LateDeadline}
use Rattle.org_answer.specs.declared.picture.WeekDays.{WeekDays}
use Rattle.org_look.specs.declared.day.GridDay.{GridDay}
use Rattle.org_look.specs.declared.entry.Entry.{Entry}
use Rattle.org_look.specs.declared.entry.Stand.{Stand}
use Rattle.org_look.specs.declared.entry.Stand.TheVariants.{Own, Range, Late, Soon}

-- how a row stands on its day: a range with its numbers, and what is late or comes near apart from what is of the day
abbrev pub kind_stand : RowKind → ℕ → ℕ → Stand
kind_stand InRange number of = Range number of
kind_stand LateSchedule number of = Late
kind_stand LateDeadline number of = Late
kind_stand Warning number of = Soon
kind_stand _ number of = Own

abbrev pub stand_of : Row → Stand
stand_of row = kind_stand row.kind row.number row.of

abbrev pub row_stands : List Row → List Stand
row_stands rows = map stand_of rows

-- how the entries of a day stand there
abbrev pub entry_stands : List Entry → List Stand
entry_stands entries = map (λ entry. entry.stand) entries

abbrev pub day_stands : GridDay → List Stand
day_stands day = entry_stands day.entries.items

-- there is an entry for each row, in their order, unless memory is refused
abbrev pub GivesEntries : {A E : Type 0} → Result (Vec Entry A) E → List Row → Type 0
GivesEntries result rows = IfOk result (λ entries. entry_stands entries.items ≡ row_stands rows)

-- a day has an entry for each row of an agenda's day, in their order, unless memory is refused
abbrev pub GivesDay : {E : Type 0} → Result GridDay E → AgendaView → ℕ → Type 0
GivesDay result agenda ahead = IfOk result (λ day. day_stands day ≡ row_stands (rows_ahead agenda ahead))

-- how the rows of so many days of an agenda stand on them, from one on
abbrev pub stands_from : AgendaView → ℕ → ℕ → List (List Stand)
stands_from agenda first count = map (λ ahead. row_stands (rows_ahead agenda ahead)) (range_with_len first count)

-- the days of a week have these, unless memory is refused
abbrev pub AreWeek : {A : Type 0} → Vec GridDay A → AgendaView → ℕ → Type 0
AreWeek days agenda first = map day_stands days.items ≡ stands_from agenda first 7

-- the same of so many weeks, each with its days
abbrev pub stands_of_weeks : AgendaView → ℕ → List (List (List Stand))
stands_of_weeks agenda count = map (λ week. stands_from agenda (7 * week) 7) (range_with_len 0 count)

-- weeks have the days of all whole weeks of an agenda
abbrev pub AreWeeks : List WeekDays → AgendaView → Type 0
AreWeeks weeks agenda = map (λ week. map day_stands week.days.items) weeks ≡ stands_of_weeks agenda (agenda.count / 7)
