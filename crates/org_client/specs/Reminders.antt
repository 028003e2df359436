-- Rows that begin between two moments (profile).
use Rattle.std.specs.Prelude.{ℕ, ◌+◌, ◌-◌, ◌==◌, nat_lt, Bool, false, not, ◌&&◌, ◌||◌, List, Option, None, Some, filter, map}
use Rattle.std.specs.List.{flat_map, range_with_len}
use Rattle.org_agenda.specs.Days.{AgendaView, agenda_of, day_rows}
use Rattle.org_agenda.specs.declared.row.Row.{Row}
use Rattle.org_agenda.specs.declared.source.HeadingStamp.{HeadingStamp}
use Rattle.org_base.specs.declared.profile.Profile.{Profile}
use Rattle.org_cal.specs.declared.moment.Moment.{Moment}
use Rattle.org_client.specs.declared.next.Upcoming.{Upcoming}
use Rattle.org_client.specs.declared.reminders.Window.{Window}

-- a time of a day lies after a moment
abbrev pub is_after : Moment → ℕ → ℕ → Bool
is_after moment day time = nat_lt moment.day day || ((moment.day == day) && nat_lt moment.minute time)

-- a start on a day lies after one moment and not after another; no start never does
abbrev pub starts_between : Moment → Moment → ℕ → Option ℕ → Bool
starts_between after until day None = false
starts_between after until day (Some start) = is_after after day start && not (is_after until day start)

-- so does that of a row
abbrev pub is_between : Moment → Moment → ℕ → Row → Bool
is_between after until day row = starts_between after until day row.start

-- those of a day's rows
abbrev pub day_between : Moment → Moment → ℕ → List Row → List Upcoming
day_between after until day rows = map (λ row. record { day = day; row = row }) (filter (is_between after until day) rows)

-- the same by a window
abbrev pub window_rows : Window → ℕ → List Row → List Upcoming
window_rows window day rows = day_between window.after window.until day rows

abbrev pub is_in_window : Window → ℕ → Option ℕ → Bool
is_in_window window day start = starts_between window.after window.until day start

-- those of an agenda, day by day
abbrev pub between : Moment → Moment → AgendaView → List Upcoming
between after until agenda =
    flat_map (λ day. day_between after until day (day_rows agenda.profile agenda.sources agenda.today day)) (range_with_len agenda.first agenda.count)

abbrev pub rows_between : Window → AgendaView → List Upcoming
rows_between window agenda = between window.after window.until agenda

-- what is told of stamps from one moment to another: those of the agenda from the day of the one to the day of the other
abbrev pub reminders : Profile → List HeadingStamp → ℕ → Moment → Moment → List Upcoming
reminders p stamps today after until = between after until (agenda_of p stamps today after.day (until.day + 1 - after.day))
