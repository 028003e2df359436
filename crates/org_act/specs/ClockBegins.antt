-- What the beginning of a clock makes of a text (Org manual 9.6, "Clocking Work Time").
use Rattle.std.specs.Prelude.{◌≡◌, ◌⊎◌, ◌+◌, ◌<◌, ◌≤◌, ℕ, true, List, [], ◌∷◌, ◌++◌, codes, length, None, Some, Ok}
use Rattle.std.specs.List.{concat}
use Rattle.org_act.specs.ClockSections.{span_at}
use Rattle.org_act.specs.Clocking.{clocked_text}
use Rattle.org_act.specs.declared.clock_act.ClockStep.TheVariants.{In}
use Rattle.org_amend.specs.Clocks.{minute_at, running_in}
use Rattle.org_amend.specs.Places.{is_logbook}
use Rattle.org_cal.specs.Days.{IsDay}
use Rattle.org_cal.specs.declared.moment.Moment.{Moment}
use Rattle.org_cal.specs.declared.time_of_day.TheConstants.{MINUTES_PER_DAY}
use Rattle.org_class.specs.Classes.{classes_in}
use Rattle.org_class.specs.Drawers.{is_drawer_end}
use Rattle.org_drawer.specs.Clock.{clock_of}
use Rattle.org_store.specs.Begun.{IsBegunBy}

-- as a clock line, a line says a clock that runs since a moment
abbrev pub Runs : Moment → List ℕ → Type 0
Runs now line = clock_of line ≡ Some (record { from = minute_at now; to = None })

-- the lines of such a clock: its own, or a drawer that holds no other
pub data AreBegun : Moment → List (List ℕ) → Type 0 where
  alone : (now : Moment) (clock : List ℕ) → Runs now clock → AreBegun now (clock ∷ [])
  drawer : (now : Moment) (first clock last : List ℕ) → is_logbook first ≡ true → Runs now clock → is_drawer_end last ≡ true → AreBegun now (first ∷ clock ∷ last ∷ [])

-- what ends a line
abbrev pub IsBreak : List ℕ → Type 0
IsBreak bytes = (bytes ≡ codes "\n") ⊎ (bytes ≡ codes "\r\n")

-- in the section that begins with a line no clock ran, and at a place of it stand the lines of one that runs since a moment,
-- behind the end of a line where that lacked it. All other bytes stay
pub record HasBegun (line : ℕ) (now : Moment) (text new : List ℕ) : Type 0 where
  pub place : ℕ
  pub begun : IsBegunBy text line place
  pub none : running_in text (span_at text place) (classes_in text (span_at text place)) ≡ None
  pub front : List ℕ
  pub gap : List ℕ
  pub own : List (List ℕ)
  pub back : List ℕ
  pub low : (span_at text place).at ≤ length front
  pub high : length front ≤ (span_at text place).at + (span_at text place).len
  pub text_is : text ≡ front ++ back
  pub gap_is : (gap ≡ []) ⊎ IsBreak gap
  pub own_is : AreBegun now own
  pub new_is : new ≡ front ++ (gap ++ (concat own ++ back))

-- where a clock begins, that is so
abbrev pub ActsBeginOneClock : Type 0
ActsBeginOneClock = (line : ℕ) (now : Moment) (text new : List ℕ) → IsDay now.day → now.minute < MINUTES_PER_DAY →
    clocked_text (record { line = line; step = In now }) text ≡ Ok new → HasBegun line now text new
