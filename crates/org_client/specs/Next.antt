-- Which stamps come next (profile).
use Rattle.std.specs.BTreeSet.{BTreeSet, contains}
use Rattle.std.specs.Ordering.{nat_cmp, ordering_then}
use Rattle.std.specs.declared.cmp.Ordering.{Ordering}
use Rattle.std.specs.Prelude.{◌≡◌, ℕ, Bool, true, not, ◌&&◌, ◌||◌, ◌==◌, nat_lt, nat_le, if◌then◌else◌, List, [], ◌∷◌, ◌++◌, Option, Some, None, fold}
use Rattle.std.specs.List.{list_any, range_with_len}
use Rattle.org_agenda.specs.Days.{AgendaView, day_rows}
use Rattle.org_agenda.specs.Laws.{reminds}
use Rattle.org_agenda.specs.declared.row.Row.{Row}
use Rattle.org_cal.specs.declared.moment.Moment.{Moment}
use Rattle.org_client.specs.declared.next.Upcoming.{Upcoming}

-- without a start, or with one that isn't before a minute of the day
abbrev pub starts_by : ℕ → Option ℕ → Bool
starts_by minute None = true
starts_by minute (Some start) = nat_le minute start

-- a row of a day is no late row and no warning, and lies on a later day than the moment, or on its day and not before it
abbrev pub is_ahead : Moment → ℕ → Row → Bool
is_ahead now day row = not (reminds row.kind) && (nat_lt now.day day || ((now.day == day) && starts_by now.minute row.start))

-- two rows are of one stamp
abbrev pub is_of_row : Row → Row → Bool
is_of_row row other = (row.file == other.file) && (row.heading == other.heading) && (row.stamp_at == other.stamp_at)

abbrev pub is_of : Row → Upcoming → Bool
is_of row upcoming = is_of_row row upcoming.row

-- those that come next, and a row of a day, if it is ahead and the first of its stamp
abbrev pub with_row : Moment → ℕ → List Upcoming → Row → List Upcoming
with_row now day next row =
    if is_ahead now day row && not (list_any (is_of row) next) then next ++ record { day = day; row = row } ∷ [] else next

-- the same of one that is ahead
abbrev pub with_new : List Upcoming → ℕ → Row → List Upcoming
with_new next day row = if not (list_any (is_of row) next) then next ++ record { day = day; row = row } ∷ [] else next

-- a stamp by the places of its file, of its heading and in its section
abbrev pub stamp_cmp : ℕ × ℕ × ℕ → ℕ × ℕ × ℕ → Ordering
stamp_cmp a b = ordering_then (ordering_then (nat_cmp a.0 b.0) (nat_cmp a.1 b.1)) (nat_cmp a.2 b.2)

-- a row is of it
abbrev pub is_at_stamp : ℕ → ℕ → ℕ → Upcoming → Bool
is_at_stamp file heading at upcoming = (file == upcoming.row.file) && (heading == upcoming.row.heading) && (at == upcoming.row.stamp_at)

-- these are the stamps that rows are of
abbrev pub AreStampsOf : BTreeSet (ℕ × ℕ × ℕ) → List Upcoming → Type 0
AreStampsOf stamps next = (file heading at : ℕ) → contains stamp_cmp stamps (file, heading, at) ≡ list_any (is_at_stamp file heading at) next

-- the same with all rows of a day
abbrev pub with_day : Moment → AgendaView → List Upcoming → ℕ → List Upcoming
with_day now agenda next day = fold (with_row now day) next (day_rows agenda.profile agenda.sources agenda.today day)

-- of each stamp of an agenda the first row that is ahead, day by day
abbrev pub next_rows : Moment → AgendaView → List Upcoming
next_rows now agenda = fold (with_day now agenda) [] (range_with_len agenda.first agenda.count)
