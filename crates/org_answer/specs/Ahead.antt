-- Moments ahead of others, and rows under their days (profile).
use Rattle.std.specs.Prelude.{◌≡◌, ℕ, ◌+◌, ◌==◌, Bool, false, nat_le, List, [], ◌∷◌, Option, None, Some, Result, filter, map}
use Rattle.std.specs.List.{flat_map, range_with_len}
use Rattle.org_agenda.specs.Days.{AgendaView}
use Rattle.org_agenda.specs.declared.row.Row.{Row}
use Rattle.org_cal.specs.Minutes.{minute_of}
use Rattle.org_cal.specs.declared.moment.Moment.{Moment}
use Rattle.org_client.specs.Next.{next_rows}
use Rattle.org_client.specs.declared.next.Upcoming.{Upcoming}
use Rattle.org_layout.specs.Shown.{day_lines_shown}
use Rattle.org_layout.specs.declared.shown.Line.{Line}
use Rattle.org_answer.specs.Views.{Answers}
use Rattle.org_answer.specs.declared.view.Answer.{Answer}

-- a moment is so many minutes after another
abbrev pub IsLater : Moment → ℕ → Moment → Type 0
IsLater moment minutes found = minute_of found.day found.minute ≡ minute_of moment.day moment.minute + minutes

-- a start on a day lies no more than so many minutes after a moment; no start never does
abbrev pub is_soon : Moment → ℕ → ℕ → Option ℕ → Bool
is_soon now minutes day None = false
is_soon now minutes day (Some start) = nat_le (minute_of day start) (minute_of now.day now.minute + minutes)

-- so does that of a row
abbrev pub begins_soon : Moment → ℕ → Upcoming → Bool
begins_soon now minutes upcoming = is_soon now minutes upcoming.day upcoming.row.start

-- those of some rows, if a number of minutes is named
abbrev pub some_soon : Option ℕ → Moment → List Upcoming → List Upcoming
some_soon None now all = all
some_soon (Some minutes) now all = filter (begins_soon now minutes) all

-- the rows of a day among others
abbrev pub is_on : ℕ → Upcoming → Bool
is_on day upcoming = upcoming.day == day

abbrev pub rows_on : List Upcoming → ℕ → List Row
rows_on all day = map (λ upcoming. upcoming.row) (filter (is_on day) all)

-- the lines of a day and its rows; a day without rows has none
abbrev pub lines_under : ℕ → List Row → List Line
lines_under day [] = []
lines_under day (row ∷ rows) = day_lines_shown day (row ∷ rows)

-- those of so many days from a first one on
abbrev pub lines_of_days : List Upcoming → ℕ → ℕ → List Line
lines_of_days all first count = flat_map (λ day. lines_under day (rows_on all day)) (range_with_len first count)

-- rows are shown under those of an agenda's days that have any
abbrev pub ShowsRows : {E : Type 0} → Result Answer E → AgendaView → List Upcoming → Type 0
ShowsRows result agenda all = Answers result false (lines_of_days all agenda.first agenda.count)

-- of each stamp of an agenda its first row that isn't before a moment, or those of these that begin in so many minutes
abbrev pub ShowsNext : {E : Type 0} → Result Answer E → AgendaView → Moment → Option ℕ → Type 0
ShowsNext result agenda now within = ShowsRows result agenda (some_soon within now (next_rows now agenda))
