-- What an act on the clock of a heading makes of a text (Org manual 9.6, "Clocking Work Time").
use Rattle.std.specs.Prelude.{◌≡◌, ◌-◌, ◌<◌, ◌≤◌, ℕ, true, Bool, List, ◌∷◌, ◌++◌, ◌+◌, length, Ok}
use Rattle.std.specs.Str.{IsUtf8}
use Rattle.org_act.specs.ClockSums.{Hold, gained}
use Rattle.org_act.specs.Clocking.{clocked_text}
use Rattle.org_act.specs.declared.clock_act.ClockStep.TheVariants.{Cancel, Out}
use Rattle.org_amend.specs.CancelLaws.{HasLost}
use Rattle.org_amend.specs.Clocks.{minute_at}
use Rattle.org_amend.specs.EndLaws.{HasEnded}
use Rattle.org_cal.specs.Days.{IsDay}
use Rattle.org_cal.specs.declared.moment.Moment.{Moment}
use Rattle.org_cal.specs.declared.time_of_day.TheConstants.{MINUTES_PER_DAY}
use Rattle.org_class.specs.Classes.{setting_lines}
use Rattle.org_class.specs.Heading.{begins_heading}
use Rattle.org_class.specs.Sections.{sections}
use Rattle.org_outline.specs.Levels.{levels}
use Rattle.org_store.specs.Begun.{IsBegunBy}
use Rattle.org_store.specs.Outline.{file_entries}
use Rattle.org_sum.specs.Measures.{clock_minutes}
use Rattle.org_sum.specs.Sums.{subtree_sum}

-- the section at a place of a text changed, that of a heading: all other sections stay, and so do the setting lines
pub record ChangesSection (place : ℕ) (text new old own : List ℕ) : Type 0 where
  pub before : List (List ℕ)
  pub after : List (List ℕ)
  pub place_is : length before ≡ place
  pub sections_were : sections text ≡ before ++ old ∷ after
  pub sections_are : sections new ≡ before ++ own ∷ after
  pub begins : begins_heading old ≡ true
  pub settings_are : setting_lines new ≡ setting_lines text

-- the running clock of the heading on a line ended at a moment, which is no earlier than it began
pub record EndsAt (line : ℕ) (now : Moment) (text new : List ℕ) : Type 0 where
  pub place : ℕ
  pub begun : IsBegunBy text line place
  pub from : ℕ
  pub old : List ℕ
  pub own : List ℕ
  pub changes : ChangesSection place text new old own
  pub in_time : from ≤ minute_at now
  pub ended : HasEnded from (minute_at now) old own

-- the running clock of the heading on a line is gone
pub record IsLostAt (line : ℕ) (text new : List ℕ) : Type 0 where
  pub place : ℕ
  pub begun : IsBegunBy text line place
  pub from : ℕ
  pub old : List ℕ
  pub own : List ℕ
  pub changes : ChangesSection place text new old own
  pub lost : HasLost from old own

-- where a clock ends, only the section changes that begins with the line, and of it the clock's line
abbrev pub ActsEndOneClock : Type 0
ActsEndOneClock = (line : ℕ) (now : Moment) (text new : List ℕ) → IsDay now.day → now.minute < MINUTES_PER_DAY → clocked_text (record { line = line; step = Out now }) text ≡ Ok new → EndsAt line now text new

-- where a clock is cancelled, only the section changes that begins with the line, and loses the clock alone
abbrev pub ActsCancelOneClock : Type 0
ActsCancelOneClock = (line : ℕ) (text new : List ℕ) → IsUtf8 text → clocked_text (record { line = line; step = Cancel }) text ≡ Ok new → IsLostAt line text new

-- the clock that ended began in a minute, no later than the moment. In days that hold both, the sums of its heading and of the
-- ancestors are the former ones and its minutes, and no other sum changes
pub record SumsGrow (line : ℕ) (now : Moment) (text new : List ℕ) : Type 0 where
  pub place : ℕ
  pub begun : IsBegunBy text line place
  pub from : ℕ
  pub in_time : from ≤ minute_at now
  pub sums : (days : ℕ × ℕ) (counted : List Bool) (heading : ℕ) → Hold days from (minute_at now) →
      subtree_sum (clock_minutes days) (file_entries new) counted heading
      ≡ subtree_sum (clock_minutes days) (file_entries text) counted heading + gained (levels (file_entries text)) counted place (minute_at now - from) heading

-- behind `clock out` the sums are so
abbrev pub ActsAddMinutes : Type 0
ActsAddMinutes = (line : ℕ) (now : Moment) (text new : List ℕ) → IsDay now.day → now.minute < MINUTES_PER_DAY → clocked_text (record { line = line; step = Out now }) text ≡ Ok new → SumsGrow line now text new
