-- A file's text replaced, and what stands there at each moment.
use Rattle.std.specs.Prelude.{◌≡◌, ◌≢◌, ◌⊎◌, ⊤, ℕ, true, false, List, [], ◌∷◌, ◌++◌, Option, Result, IfErr, IfOk, IfSome}
use Rattle.org_save.specs.Calls.{Did}
use Rattle.org_save.specs.Contents.{Contents, absent, kept, after_events, LeaveAll, Leaves}
use Rattle.org_save.specs.Events.{Event, made, gave_access, wrote, synced, found, found_former, renamed, listed, restored}
use Rattle.org_save.specs.declared.name.Name.TheVariants.{Target, Temporary, Rescue}
use Rattle.org_save.specs.declared.saved.Meanwhile.{Meanwhile}
use Rattle.org_save.specs.declared.saved.Meanwhile.TheVariants.{Nothing, Rescued, Lost, Unknown}
use Rattle.org_save.specs.declared.saved.Saved.{Saved}
use Rattle.org_save.specs.declared.unsaved.Step.TheVariants.{Rename}
use Rattle.org_save.specs.declared.unsaved.Unsaved.{Unsaved}
use Rattle.org_save.specs.declared.unsaved.Why.{Why}
use Rattle.org_save.specs.declared.unsaved.Why.TheVariants.{Changed, Failed}

-- the target has what it had, or the new text, which is on the disk
abbrev pub IsWhole : List ℕ → Contents → List Event → Type 0
IsWhole new c done = ((after_events c done).target ≡ c.target) ⊎ ((after_events c done).target ≡ kept new)

-- so it is after each of the events
abbrev pub IsAlwaysWhole : List ℕ → Contents → List Event → Type 0
IsAlwaysWhole new c [] = ⊤
IsAlwaysWhole new c (e ∷ done) = IsWhole new c (e ∷ done) × IsAlwaysWhole new c done

-- whatever the files had, a stop at any moment leaves the target whole
pub record StaysWhole (new : List ℕ) (before after : List Event) : Type 0 where
  pub done : List Event
  pub did : Did before after done
  pub whole : (c : Contents) → IsAlwaysWhole new c done

-- the first of these events is this one
pub record Begins (e : Event) (done : List Event) : Type 0 where
  pub later : List Event
  pub all : done ≡ later ++ e ∷ []

-- the last of these events is that the folder's names are on the disk
pub record IsListed (done : List Event) : Type 0 where
  pub earlier : List Event
  pub all : done ≡ listed ∷ earlier

-- the former file was looked at first, and had other bytes than `old`
pub record FindsOther (old : List ℕ) (done : List Event) : Type 0 where
  pub now : List ℕ
  pub other : now ≢ old
  pub begins : Begins (found_former now) done

-- and what it had is on the disk, in the file that keeps it
pub record Rescues (old : List ℕ) (done : List Event) : Type 0 where
  pub finds : FindsOther old done
  pub rescue : (c : Contents) → (after_events c done).rescue ≡ kept finds.now

-- how bytes come into the file that keeps them, the newest first
abbrev pub rescue_events : List ℕ → List Event
rescue_events bytes = synced Rescue ∷ wrote Rescue bytes ∷ made Rescue ∷ []

-- what is said of the former file after what was done since the rename
abbrev pub Says : List ℕ → Meanwhile → List Event → Type 0
Says old Nothing done = Begins (found_former old) done
Says old Rescued done = Rescues old done
Says old Lost done = FindsOther old done
Says old Unknown done = ⊤

-- a look at the former file, and what is said of it
pub record LooksBack (old : List ℕ) (meanwhile : Meanwhile) (before after : List Event) : Type 0 where
  pub done : List Event
  pub did : Did before after done
  pub target : LeaveAll Target done
  pub temporary : LeaveAll Temporary done
  pub says : Says old meanwhile done

-- events after which a target that has the new text still has it: each leaves it, or gives it to the file that it was before
abbrev pub HoldAll : List ℕ → List Event → Type 0
HoldAll new [] = ⊤
HoldAll new (e ∷ done) = (Leaves Target e ⊎ (e ≡ restored new)) × HoldAll new done

-- the target was found to have the new text, and right then the file that it was before took its place with that; what is said
-- of the file that stood there meanwhile is so
pub record IsRestored (new : List ℕ) (done : List Event) (meanwhile : Meanwhile) : Type 0 where
  pub later : List Event
  pub earlier : List Event
  pub all : done ≡ later ++ restored new ∷ found Target new ∷ earlier
  pub says : Says new meanwhile later

-- the target has the new text still, and may be the file again that it was
pub record Restores (new : List ℕ) (again : Option Meanwhile) (before after : List Event) : Type 0 where
  pub done : List Event
  pub did : Did before after done
  pub target : HoldAll new done
  pub temporary : LeaveAll Temporary done
  pub says : IfSome again (IsRestored new done)

-- what is done after the rename but for the folder, and what is said of it
pub record Settles (old new : List ℕ) (saved : Saved) (before after : List Event) : Type 0 where
  pub done : List Event
  pub did : Did before after done
  pub target : HoldAll new done
  pub temporary : LeaveAll Temporary done
  pub meanwhile : Says old saved.meanwhile done
  pub again : IfSome saved.restored (IsRestored new done)
  pub durable : saved.durable ≡ false

-- what is done after the rename, and what is said of it
pub record Finishes (old new : List ℕ) (saved : Saved) (before after : List Event) : Type 0 where
  pub done : List Event
  pub did : Did before after done
  pub target : HoldAll new done
  pub temporary : LeaveAll Temporary done
  pub meanwhile : Says old saved.meanwhile done
  pub again : IfSome saved.restored (IsRestored new done)
  pub durable : saved.durable ≡ true → IsListed done

-- the target was found to have the old text, and was then replaced before anything else was done. It has the new text, on
-- the disk; no temporary file stands there; and what is said of the former file, of its coming back and of the folder is so
pub record IsReplaced (old new : List ℕ) (saved : Saved) (before after : List Event) : Type 0 where
  pub later : List Event
  pub earlier : List Event
  pub did : Did before after (later ++ renamed Temporary Target ∷ found Target old ∷ earlier)
  pub target : (c : Contents) → (after_events c (later ++ renamed Temporary Target ∷ found Target old ∷ earlier)).target ≡ kept new
  pub temporary : (c : Contents) → (after_events c (later ++ renamed Temporary Target ∷ found Target old ∷ earlier)).temporary ≡ absent
  pub meanwhile : Says old saved.meanwhile later
  pub again : IfSome saved.restored (IsRestored new later)
  pub durable : saved.durable ≡ true → IsListed later

-- the target has what it had
pub record IsUntouched (before after : List Event) : Type 0 where
  pub done : List Event
  pub did : Did before after done
  pub target : (c : Contents) → (after_events c done).target ≡ c.target

-- no temporary file of the call's own stands there
pub record LeavesNothing (before after : List Event) : Type 0 where
  pub done : List Event
  pub did : Did before after done
  pub temporary : (c : Contents) → ((after_events c done).temporary ≡ absent) ⊎ ((after_events c done).temporary ≡ c.temporary)

-- the target was read, and had other bytes
pub record HasChanged (old : List ℕ) (before after : List Event) : Type 0 where
  pub now : List ℕ
  pub later : List Event
  pub earlier : List Event
  pub did : Did before after (later ++ found Target now ∷ earlier)
  pub other : now ≢ old

-- how the temporary file is filled once it is made, the newest first
abbrev pub fill_events : List ℕ → List Event
fill_events new = synced Temporary ∷ wrote Temporary new ∷ gave_access Temporary ∷ []

-- all that is done from there on until it has the target's name
abbrev pub swap_events : List ℕ → List ℕ → List Event
swap_events old new = renamed Temporary Target ∷ found Target old ∷ fill_events new

-- the call stopped at the rename, of which no one can say whether it was done
abbrev pub IsAtRename : Why → Type 0
IsAtRename (Failed Rename cause) = ⊤
IsAtRename why = ⊥

-- a call stopped before it touched the target, or at the rename after all that comes before it
pub record Stops (old new : List ℕ) (why : Why) (before after : List Event) : Type 0 where
  pub done : List Event
  pub did : Did before after done
  pub shape : LeaveAll Target done ⊎ (IsAtRename why × (done ≡ swap_events old new))

-- what is said where the target has changed
abbrev pub IfChanged : {T : Type 0} → Result T Why → Type 0 → Type 0
IfChanged result P = IfErr result (λ why. why ≡ Changed → P)

-- the clauses of a replacement

abbrev pub IfReplaced : Result Saved Unsaved → List ℕ → List ℕ → List Event → List Event → Type 0
IfReplaced result old new before after = IfOk result (λ saved. IsReplaced old new saved before after)

abbrev pub IfBeforeRename : Result Saved Unsaved → List Event → List Event → Type 0
IfBeforeRename result before after = IfErr result (λ u. (IsAtRename u.why → ⊥) → IsUntouched before after)

abbrev pub IfSaidChanged : Result Saved Unsaved → List ℕ → List Event → List Event → Type 0
IfSaidChanged result old before after = IfErr result (λ u. u.why ≡ Changed → HasChanged old before after)

abbrev pub IfSaidGone : Result Saved Unsaved → List Event → List Event → Type 0
IfSaidGone result before after = IfErr result (λ u. u.left ≡ false → LeavesNothing before after)

abbrev pub IfStopped : {T : Type 0} → Result T Why → List ℕ → List ℕ → List Event → List Event → Type 0
IfStopped result old new before after = IfErr result (λ why. Stops old new why before after)
