-- Laws of what comes next.
use Rattle.std.specs.Prelude.{◌≡◌, ◌<◌, ◌≤◌, ℕ, ◌+◌, ◌*◌, false, true, List, Some, slice_get}
use Rattle.std.specs.List.{All, list_any}
use Rattle.org_agenda.specs.Days.{AgendaView, day_rows}
use Rattle.org_agenda.specs.declared.row.Row.{Row}
use Rattle.org_cal.specs.declared.moment.Moment.{Moment}
use Rattle.org_cal.specs.declared.time_of_day.TheConstants.{MINUTES_PER_DAY}
use Rattle.org_client.specs.Next.{is_ahead, is_of, is_of_row, next_rows}
use Rattle.org_client.specs.declared.next.Upcoming.{Upcoming}

-- a row of a day lies on the moment's day or after it, and its start, if it has one, at the moment or after it
pub record LiesAhead (now : Moment) (upcoming : Upcoming) : Type 0 where
  pub day : now.day ≤ upcoming.day
  pub start : (start : ℕ) → upcoming.row.start ≡ Some start → MINUTES_PER_DAY * now.day + now.minute ≤ MINUTES_PER_DAY * upcoming.day + start

-- so does each that comes next
abbrev pub NextLiesAhead : Type 0
NextLiesAhead = (now : Moment) (agenda : AgendaView) → now.minute < MINUTES_PER_DAY → All (LiesAhead now) (next_rows now agenda)

-- no two of them are of one stamp
abbrev pub StampsComeOnce : Type 0
StampsComeOnce = (now : Moment) (agenda : AgendaView) (i j : ℕ) (a b : Upcoming) → i < j →
    slice_get (next_rows now agenda) i ≡ Some a → slice_get (next_rows now agenda) j ≡ Some b → is_of_row b.row a.row ≡ false

-- one of a day's rows
abbrev pub IsRowOf : AgendaView → Upcoming → Type 0
IsRowOf agenda upcoming = (k : ℕ) × (slice_get (day_rows agenda.profile agenda.sources agenda.today upcoming.day) k ≡ Some upcoming.row)

-- the agenda shows each of them on its day
abbrev pub AgendasShowNext : Type 0
AgendasShowNext = (now : Moment) (agenda : AgendaView) → All (IsRowOf agenda) (next_rows now agenda)

-- where a day of the agenda has a row that is ahead, one of its stamp comes
abbrev pub NoStampIsMissed : Type 0
NoStampIsMissed = (now : Moment) (agenda : AgendaView) (a k : ℕ) (row : Row) → a < agenda.count →
    slice_get (day_rows agenda.profile agenda.sources agenda.today (agenda.first + a)) k ≡ Some row → is_ahead now (agenda.first + a) row ≡ true → list_any (is_of row) (next_rows now agenda) ≡ true

-- none of its stamp comes on a later day
abbrev pub NextIsFirst : Type 0
NextIsFirst = (now : Moment) (agenda : AgendaView) (a k i : ℕ) (row : Row) (u : Upcoming) → a < agenda.count →
    slice_get (day_rows agenda.profile agenda.sources agenda.today (agenda.first + a)) k ≡ Some row → is_ahead now (agenda.first + a) row ≡ true →
    slice_get (next_rows now agenda) i ≡ Some u → is_of row u ≡ true → u.day ≤ agenda.first + a
