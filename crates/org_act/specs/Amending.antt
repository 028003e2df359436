-- An act that is done to a file, and what stands there at each moment. `wanted` is the text that the act makes of the one that
-- was read, or its refusal.
use Rattle.std.specs.Prelude.{◌≡◌, ◌≢◌, ℕ, false, List, Result, Ok, Err, IfOk, IfErr}
use Rattle.org_act.specs.Changes.{LiesIn, no_memory, with_change}
use Rattle.org_act.specs.declared.act.Refusal.{Refusal}
use Rattle.org_act.specs.declared.amendment.Amended.{Amended}
use Rattle.org_act.specs.declared.amendment.Unamended.{Unamended}
use Rattle.org_act.specs.declared.amendment.Unamended.TheVariants.{Refused, Unsaved}
use Rattle.org_store.specs.declared.change.OwnedChange.{OwnedChange}
use Rattle.org_save.specs.Events.{Event}
use Rattle.org_save.specs.Replacing.{HasChanged, IsAtRename, IsReplaced, IsUntouched, LeavesNothing, StaysWhole}
use Rattle.org_save.specs.declared.unsaved.Unsaved.{Unsaved as NotSaved}
use Rattle.org_save.specs.declared.unsaved.Why.TheVariants.{Changed}

-- after each thing that is done the target holds what it held, or the wanted text, whole; a refused act does nothing
abbrev pub StaysAmended : Result (List ℕ) Refusal → List Event → List Event → Type 0
StaysAmended (Ok new) before after = StaysWhole new before after
StaysAmended (Err why) before after = after ≡ before

-- the target had the old text right before it was replaced by that with the change, which is the wanted one
pub record IsAmended (wanted : Result (List ℕ) Refusal) (old : List ℕ) (before after : List Event) (amended : Amended) : Type 0 where
  pub within : LiesIn old amended.change
  pub is_wanted : wanted ≡ Ok (with_change old amended.change)
  pub replaced : IsReplaced old (with_change old amended.change) amended.saved before after

-- the target stands as it did, unless the last step itself seemed to fail; what is said of it is so
pub record IsUnsaved (old : List ℕ) (before after : List Event) (why : NotSaved) : Type 0 where
  pub untouched : (IsAtRename why.why → ⊥) → IsUntouched before after
  pub changed : why.why ≡ Changed → HasChanged old before after
  pub left : why.left ≡ false → LeavesNothing before after

-- nothing was done, and the act is refused so, unless memory is
pub record IsRefusedAs (wanted : Result (List ℕ) Refusal) (before after : List Event) (why : Refusal) : Type 0 where
  pub nothing : after ≡ before
  pub is_wanted : why ≢ no_memory → wanted ≡ Err why

-- why an act wasn't done
abbrev pub IsRefused : Result (List ℕ) Refusal → List ℕ → List Event → List Event → Unamended → Type 0
IsRefused wanted old before after (Refused why) = IsRefusedAs wanted before after why
IsRefused wanted old before after (Unsaved why) = IsUnsaved old before after why

-- the clauses of an act that is done

abbrev pub IfDone : Result Amended Unamended → (List ℕ → Result (List ℕ) Refusal) → List ℕ → List Event → List Event → Type 0
IfDone result amended old before after = IfOk result (IsAmended (amended old) old before after)

abbrev pub IfFails : Result Amended Unamended → (List ℕ → Result (List ℕ) Refusal) → List ℕ → List Event → List Event → Type 0
IfFails result amended old before after = IfErr result (IsRefused (amended old) old before after)

-- a change that was written
pub record IsWritten (old : List ℕ) (change : OwnedChange) (before after : List Event) (amended : Amended) : Type 0 where
  pub is : amended.change ≡ change
  pub replaced : IsReplaced old (with_change old change) amended.saved before after

-- why one wasn't: for want of memory, with nothing done, or since the text could not be replaced
abbrev pub IsUnwritten : List ℕ → List Event → List Event → Unamended → Type 0
IsUnwritten old before after (Refused why) = (after ≡ before) × (why ≡ no_memory)
IsUnwritten old before after (Unsaved why) = IsUnsaved old before after why
