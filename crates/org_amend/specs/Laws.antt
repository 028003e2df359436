-- Laws of clocks that run and end.
use Rattle.std.specs.Prelude.{◌≡◌, ◌==◌, ◌<◌, ℕ, ◌+◌, false, List, [], ◌∷◌, ◌++◌, length, slice_get, Some, None, take, drop}
use Rattle.std.specs.List.{concat}
use Rattle.org_class.specs.declared.class.Class.{Class}
use Rattle.org_class.specs.declared.class.Class.TheVariants.{Clock}
use Rattle.org_amend.specs.declared.running.RunningClock.{RunningClock}
use Rattle.org_cal.specs.Days.{IsDay}
use Rattle.org_cal.specs.declared.moment.Moment.{Moment}
use Rattle.org_cal.specs.declared.time_of_day.TheConstants.{MINUTES_PER_DAY}
use Rattle.org_drawer.specs.Clock.{clock_of}
use Rattle.org_amend.specs.Clocks.{end_text, first_running, minute_at, since, stamp_end}
use Rattle.org_amend.specs.Begun.{clock_line}

-- a line with a text put in at a place
abbrev pub with_text : List ℕ → ℕ → List ℕ → List ℕ
with_text line at text = take at line ++ (text ++ drop at line)

-- where a running clock's line gets its end, it is read as that clock, ended at that moment
abbrev pub EndedClocksAreRead : Type 0
EndedClocksAreRead = (line : List ℕ) (from minutes : ℕ) (now : Moment) → IsDay now.day → now.minute < MINUTES_PER_DAY → since line ≡ Some from →
    clock_of (with_text line (stamp_end line) (end_text now minutes)) ≡ Some (record { from = from; to = Some (minute_at now) })

-- nothing, or something else than a dash first
abbrev pub EndsStamp : List ℕ → Type 0
EndsStamp [] = Unit {0}
EndsStamp (b ∷ bs) = (b == 45) ≡ false

-- the line of a clock that begins at a moment is read as one that runs since that moment, whatever its drawer's indentation
-- is and however it ends
abbrev pub BegunClocksRun : Type 0
BegunClocksRun = (now : Moment) (opening end : List ℕ) → IsDay now.day → now.minute < MINUTES_PER_DAY → EndsStamp end →
    clock_of (clock_line now opening end) ≡ Some (record { from = minute_at now; to = None })

-- a running clock's line, and those before and after it, none of which runs before it; each byte of it is where it is said
pub record IsFirst (cs : List Class) (place at : ℕ) (ls : List (List ℕ)) (r : RunningClock) : Type 0 where
  pub before : List (List ℕ)
  pub line : List ℕ
  pub after : List (List ℕ)
  pub lines_are : ls ≡ before ++ line ∷ after
  pub none_before : first_running cs place at before ≡ None
  pub class_is : slice_get cs (place + length before) ≡ Some Clock
  pub runs : since line ≡ Some r.from
  pub at_is : r.at ≡ at + length (concat before)
  pub len_is : r.len ≡ length line
  pub end_is : r.end ≡ r.at + stamp_end line

-- the running clock that is found is the first one of the section's lines
abbrev pub FoundClocksRun : Type 0
FoundClocksRun = (cs : List Class) (place at : ℕ) (ls : List (List ℕ)) (r : RunningClock) → first_running cs place at ls ≡ Some r → IsFirst cs place at ls r
