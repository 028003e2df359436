-- What the entry of a heading says behind an act on its clock, beside what it said (Org manual 9.6, "Clocking Work Time").
use Rattle.std.specs.Prelude.{◌≡◌, ℕ, Bool, true, List, ◌∷◌, ◌++◌, map, Some, None, is_some}
use Rattle.std.specs.List.{list_all}
use Rattle.org_amend.specs.CancelLaws.{HasLost}
use Rattle.org_amend.specs.EndLaws.{HasEnded}
use Rattle.org_drawer.specs.declared.clock.ClockLine.{ClockLine}
use Rattle.org_entry.specs.Entry.{entry_of}
use Rattle.org_entry.specs.declared.entry.Entry.{Entry}
use Rattle.org_settings.specs.Settings.{FileSettings}
use Rattle.org_stamp.specs.declared.stamp.Found.{Found}
use Rattle.org_stamp.specs.declared.stamp.Stamp.{Stamp}

-- a stamp that was found, wherever it stands
abbrev pub unplaced : Found → ℕ × Stamp
unplaced f = (f.len, f.stamp)

-- two entries say the same but for their clocks, up to places
pub record SaysElse (old new : Entry) : Type 0 where
  pub text : new.text ≡ old.text
  pub head : new.head ≡ old.head
  pub drawer : new.details.drawer ≡ old.details.drawer
  pub stamps : map unplaced new.details.stamps ≡ map unplaced old.details.stamps

-- a clock that runs since a minute, and one that ended
abbrev pub running : ℕ → ClockLine
running from = record { from = from; to = None }

abbrev pub closed : ℕ → ℕ → ClockLine
closed from to = record { from = from; to = Some to }

-- the clock that runs since a minute is no longer there; all else is said as before
pub record HasLostClock (from : ℕ) (old new : Entry) : Type 0 where
  pub others : SaysElse old new
  pub before : List ClockLine
  pub after : List ClockLine
  pub clocks_were : old.details.clocks ≡ before ++ running from ∷ after
  pub clocks_are : new.details.clocks ≡ before ++ after

-- a clock that doesn't run
abbrev pub is_over : ClockLine → Bool
is_over clock = is_some clock.to

-- at its place the first clock that ran, since a minute, ended; all else is said as before
pub record HasEndedClock (from to : ℕ) (old new : Entry) : Type 0 where
  pub others : SaysElse old new
  pub before : List ClockLine
  pub after : List ClockLine
  pub clocks_were : old.details.clocks ≡ before ++ running from ∷ after
  pub clocks_are : new.details.clocks ≡ before ++ closed from to ∷ after
  pub first : list_all is_over before ≡ true

-- where lines went with a running clock, the entry says all that it said but for that clock
abbrev pub OneClockGoes : Type 0
OneClockGoes = (settings : FileSettings) (from : ℕ) (old new : List ℕ) → HasLost from old new → HasLostClock from (entry_of settings old) (entry_of settings new)

-- where the line of a running clock got its end, the entry says all that it said, and that this clock ended
abbrev pub OneClockCloses : Type 0
OneClockCloses = (settings : FileSettings) (from to : ℕ) (old new : List ℕ) → HasEnded from to old new → HasEndedClock from to (entry_of settings old) (entry_of settings new)
