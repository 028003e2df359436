-- What a call adds to what was done, the newest first.
use Rattle.std.specs.Prelude.{◌≡◌, ◌⊎◌, ℕ, Bool, List, ◌∷◌, ◌++◌, Result, MatchResult, OnOk}
use Rattle.std.specs.Bool.{OnFalse}
use Rattle.org_save.specs.Contents.{LeaveAll}
use Rattle.org_save.specs.Events.{Event, wrote, tore, found, found_former, removed}
use Rattle.org_save.specs.declared.name.Name.{Name}
use Rattle.org_save.specs.declared.name.Name.TheVariants.{Target, Temporary}

-- of a call that did these events, the newest first, after what was done before
pub record Did (before after done : List Event) : Type 0 where
  pub all : after ≡ done ++ before

-- events were added that all leave the target as it is
pub record AddsBeside (before after : List Event) : Type 0 where
  pub done : List Event
  pub did : Did before after done
  pub target : LeaveAll Target done

-- events were added that all leave the target and the temporary file as they are
pub record AddsApart (before after : List Event) : Type 0 where
  pub done : List Event
  pub did : Did before after done
  pub target : LeaveAll Target done
  pub temporary : LeaveAll Temporary done

-- one event was added, or none where the call failed
abbrev pub Adds : {T E : Type 0} → Result T E → Event → List Event → List Event → Type 0
Adds result e before after = MatchResult result (λ _. after ≡ e ∷ before) (λ _. after ≡ before)

-- the first event was added, or the second where the call failed
abbrev pub AddsEither : {T E : Type 0} → Result T E → Event → Event → List Event → List Event → Type 0
AddsEither result e torn before after = MatchResult result (λ _. after ≡ e ∷ before) (λ _. after ≡ torn ∷ before)

-- the bytes were written; where the call failed, some of them may have been
abbrev pub Writes : {T E : Type 0} → Result T E → Name → List ℕ → List Event → List Event → Type 0
Writes result a bytes before after = AddsEither result (wrote a bytes) (tore a) before after

-- these events were added, where the calls succeeded
abbrev pub AddsAll : {T E : Type 0} → Result T E → List Event → List Event → List Event → Type 0
AddsAll result done before after = OnOk result (after ≡ done ++ before)

-- where a file is said to be gone, it was removed
abbrev pub IfGone : Bool → Name → List Event → List Event → Type 0
IfGone left a before after = OnFalse left (after ≡ removed a ∷ before)

-- the event was added; it may have been, where the call failed
abbrev pub MayAdd : {T E : Type 0} → Result T E → Event → List Event → List Event → Type 0
MayAdd result e before after =
    MatchResult result (λ _. after ≡ e ∷ before) (λ _. (after ≡ before) ⊎ (after ≡ e ∷ before))

-- the bytes are what a file was found to have
abbrev pub Finds : {T E : Type 0} → Result T E → Name → List ℕ → List Event → List Event → Type 0
Finds result a bytes before after = Adds result (found a bytes) before after

-- the bytes are what the former target was found to have
abbrev pub FindsFormer : {T E : Type 0} → Result T E → List ℕ → List Event → List Event → Type 0
FindsFormer result bytes before after = Adds result (found_former bytes) before after
