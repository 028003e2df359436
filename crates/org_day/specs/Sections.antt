-- The sections of a day, and in which of them a row belongs by itself.
use Rattle.std.specs.Prelude.{ℕ, Bool, true, false, ◌&&◌, if◌then◌else◌, Option, None, Some}
use Rattle.org_day.specs.declared.section.Section.{Section}
use Rattle.org_day.specs.declared.section.Section.TheVariants.{AllDay, ByTheClock, Due, Late, Planned, DueSoon, Habits}
use Rattle.org_day.specs.declared.stand.Hours.{Hours}
use Rattle.org_day.specs.declared.stand.Kind.{Kind}
use Rattle.org_day.specs.declared.stand.Kind.TheVariants.{Stamp, Range, Planned as PlannedRow, Due as DueRow, LatePlanned, LateDue, DueIn}
use Rattle.org_day.specs.declared.stand.Stand.{Stand}

-- their order
abbrev pub rank_of : Section → ℕ
rank_of AllDay = 0
rank_of ByTheClock = 1
rank_of Due = 2
rank_of Late = 3
rank_of Planned = 4
rank_of DueSoon = 5
rank_of Habits = 6

-- what has a time stands by the clock
abbrev pub by_time : Option Hours → Section → Section
by_time None section = section
by_time (Some hours) section = ByTheClock

abbrev pub timed_or : Stand → Section → Section
timed_or stand section = by_time stand.hours section

-- a row says when its heading is to be done
abbrev pub is_to_do : Kind → Bool
is_to_do Stamp = false
is_to_do (Range day of) = false
is_to_do PlannedRow = true
is_to_do DueRow = true
is_to_do (LatePlanned days) = true
is_to_do (LateDue days) = true
is_to_do (DueIn days) = true

abbrev pub is_of_habit : Stand → Bool
is_of_habit stand = stand.is_habit && is_to_do stand.kind

-- a row of no habit
abbrev pub section_by_kind : Stand → Kind → Section
section_by_kind stand Stamp = timed_or stand AllDay
section_by_kind stand (Range day of) = timed_or stand AllDay
section_by_kind stand PlannedRow = timed_or stand Planned
section_by_kind stand DueRow = timed_or stand Due
section_by_kind stand (LatePlanned days) = Late
section_by_kind stand (LateDue days) = Late
section_by_kind stand (DueIn days) = DueSoon

abbrev pub section_of : Stand → Section
section_of stand = if is_of_habit stand then Habits else section_by_kind stand stand.kind
