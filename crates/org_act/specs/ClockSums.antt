-- Clock sums behind a clock that ended (Org manual 9.6, "The clock table").
use Rattle.std.specs.Prelude.{◌≡◌, ℕ, ◌+◌, ◌-◌, ◌≤◌, Bool, true, false, ◌==◌, ◌||◌, if◌then◌else◌, List, ◌∷◌, ◌++◌, length, get_or, Option, is_some}
use Rattle.org_act.specs.ClockEntries.{HasEndedClock}
use Rattle.org_cal.specs.Minutes.{minute_of}
use Rattle.org_entry.specs.declared.entry.Entry.{Entry}
use Rattle.org_outline.specs.Laws.{is_above}
use Rattle.org_outline.specs.Levels.{level_of, levels}
use Rattle.org_sum.specs.Measures.{clock_minutes}
use Rattle.org_sum.specs.Sums.{subtree_sum}

-- the days from a first to a last hold both ends of a clock
pub record Hold (days : ℕ × ℕ) (from to : ℕ) : Type 0 where
  pub first : minute_of days.0 0 ≤ from
  pub last : to ≤ minute_of (days.1 + 1) 0

-- where a clock of an entry ended, it has its minutes more in days that hold both ends
abbrev pub OwnMinutesGrow : Type 0
OwnMinutesGrow = (days : ℕ × ℕ) (from to : ℕ) (old new : Entry) → from ≤ to → Hold days from to → HasEndedClock from to old new → clock_minutes days new ≡ clock_minutes days old + (to - from)

-- the headings that count, by their places
abbrev pub counts_at : List Bool → ℕ → Bool
counts_at counted place = get_or counted place false

-- what the sum of a heading gains by the one at a place: the minutes, if it is that one or above it, and that one counts
abbrev pub gained : List (Option ℕ) → List Bool → ℕ → ℕ → ℕ → ℕ
gained levels counted place minutes heading = if (place == heading) || is_above levels heading place then (if counts_at counted place then minutes else 0) else 0

-- where the clock of one heading ended, its sum and those of its ancestors are the former ones and its minutes, and no other sum
-- changes
abbrev pub SumsGrowAbove : Type 0
SumsGrowAbove = (days : ℕ × ℕ) (from to : ℕ) (before after : List Entry) (old new : Entry) (counted : List Bool) (heading : ℕ) → from ≤ to → Hold days from to → is_some (level_of old) ≡ true →
    HasEndedClock from to old new →
    subtree_sum (clock_minutes days) (before ++ new ∷ after) counted heading
    ≡ subtree_sum (clock_minutes days) (before ++ old ∷ after) counted heading + gained (levels (before ++ old ∷ after)) counted (length before) (to - from) heading
