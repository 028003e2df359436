-- What searches find among lines, line by line.
use Rattle.std.proofs.Common.{◌≡◌, ◌∙◌, inl, inr, ℕ, ◌+◌, Bool, true, false, ◌&&◌, List, [], ◌∷◌, length, refl, sym, ap}
use Rattle.std.specs.Prelude.{Option, Some, None, is_some, slice_get}
use Rattle.std.proofs.lemmas.Bool.{cases_Bool}
use Rattle.org_amend.specs.Clocks.{first_running, or_later, running_of}
use Rattle.org_amend.specs.Places.{drawer_from, front_end, is_front, or_opened}
use Rattle.org_amend.specs.Searches.{drawer_after, ended_drawer, front_after, is_ended, is_found, is_past, running_after, searched}
use Rattle.org_amend.specs.declared.place.DrawerName.{DrawerName}
use Rattle.org_amend.specs.declared.place.FrontSoFar.{FrontSoFar}
use Rattle.org_amend.specs.declared.running.FirstRunning.{FirstRunning}
use Rattle.org_amend.specs.declared.running.RunningClock.{RunningClock}
use Rattle.org_amend.proofs.RunningLemmas.{bytes_of}
use Rattle.org_base.specs.declared.span.Span.{Span}
use Rattle.org_class.specs.Drawers.{is_drawer_end}
use Rattle.org_class.specs.declared.class.Class.{Class}
use Rattle.org_lines.specs.Cuts.{Cut}

-- one line further

pub search_more : {S : Type 0} (after : S → Option Class → ℕ → List ℕ → S) (over : S → Bool) (known : S) (cs : List Class) (place at : ℕ) (cuts later : List Cut) (cut : Cut) (l : List ℕ) (whole : S) →
    over known ≡ false → cuts ≡ cut ∷ later → l ≡ cut.bytes → searched after over known cs place at (bytes_of cuts) ≡ whole →
    searched after over (after known (slice_get cs place) at l) cs (place + 1) (at + length l) (bytes_of later) ≡ whole
unfolding searched
search_more after over known cs place at cuts later cut l whole goes steps is all =
    let step : searched after over known cs place at (bytes_of (cut ∷ later)) ≡ searched after over (after known (slice_get cs place) at cut.bytes) cs (place + 1) (at + length cut.bytes) (bytes_of later) = rw goes refl in
    ap (λ (b : List ℕ). searched after over (after known (slice_get cs place) at b) cs (place + 1) (at + length b) (bytes_of later)) is
    ∙ (sym step ∙ (sym (ap (λ (c : List Cut). searched after over known cs place at (bytes_of c)) steps) ∙ all))

-- a search that is over

pub search_over : {S : Type 0} (after : S → Option Class → ℕ → List ℕ → S) (over : S → Bool) (known : S) (cs : List Class) (place at : ℕ) (ls : List (List ℕ)) → over known ≡ true →
    searched after over known cs place at ls ≡ known
unfolding searched
search_over after over known cs place at [] h = refl
search_over after over known cs place at (l ∷ ls) h = rw h refl

pub search_none : {S : Type 0} (after : S → Option Class → ℕ → List ℕ → S) (over : S → Bool) (known : S) (cs : List Class) (place at : ℕ) (cuts : List Cut) (whole : S) → cuts ≡ [] →
    searched after over known cs place at (bytes_of cuts) ≡ whole → known ≡ whole
unfolding searched
search_none after over known cs place at cuts whole none all = sym (ap (λ (c : List Cut). searched after over known cs place at (bytes_of c)) none) ∙ all

-- what each finds

pub running_searched : (cs : List Class) (place at : ℕ) (ls : List (List ℕ)) → (searched running_after is_found (record { found = None }) cs place at ls).found ≡ first_running cs place at ls
unfolding searched first_running
running_searched cs place at [] = refl
running_searched cs place at (l ∷ ls) = by (running_of (slice_get cs place) at l) (running_searched cs (place + 1) (at + length l) ls)
  where
    by : (o : Option RunningClock) → (searched running_after is_found (record { found = None }) cs (place + 1) (at + length l) ls).found ≡ first_running cs (place + 1) (at + length l) ls →
        (searched running_after is_found (record { found = o }) cs (place + 1) (at + length l) ls).found ≡ or_later o (first_running cs (place + 1) (at + length l) ls)
    by None later = later
    by (Some r) later = ap (λ (s : FirstRunning). s.found) (search_over running_after is_found (record { found = Some r }) cs (place + 1) (at + length l) ls refl)

pub front_searched : (cs : List Class) (place at : ℕ) (ls : List (List ℕ)) → (searched front_after is_past (record { end = at; is_over = false }) cs place at ls).end ≡ front_end cs place at ls
unfolding searched front_end
front_searched cs place at [] = refl
front_searched cs place at (l ∷ ls) = elim (cases_Bool (is_front (slice_get cs place))) [
  | inl f ↦ rw f (front_searched cs (place + 1) (at + length l) ls)
  | inr f ↦ rw f (ap (λ (s : FrontSoFar). s.end) (search_over front_after is_past (record { end = at; is_over = true }) cs (place + 1) (at + length l) ls refl))
]

pub drawer_searched : (name : DrawerName) (drawer : Option Span) (cs : List Class) (place at : ℕ) (ls : List (List ℕ)) →
    ended_drawer (searched drawer_after is_ended (record { name = name; opening = drawer; is_ended = false }) cs place at ls) ≡ drawer_from name drawer cs place at ls
unfolding searched drawer_from
drawer_searched name drawer cs place at [] = refl
drawer_searched name drawer cs place at (l ∷ ls) = elim (cases_Bool (is_some drawer && is_drawer_end l)) [
  | inl e ↦ rw e (ap ended_drawer (search_over drawer_after is_ended (record { name = name; opening = drawer; is_ended = true }) cs (place + 1) (at + length l) ls refl))
  | inr e ↦ rw e (drawer_searched name (or_opened name drawer (slice_get cs place) at l) cs (place + 1) (at + length l) ls)
]

pub search_step : {S : Type 0} (after : S → Option Class → ℕ → List ℕ → S) (over : S → Bool) (known next : S) (class : Option Class) (cs : List Class) (place at : ℕ) (cuts later : List Cut) (cut : Cut) (l : List ℕ) (whole : S) →
    next ≡ after known class at l → class ≡ slice_get cs place → over known ≡ false → cuts ≡ cut ∷ later → l ≡ cut.bytes → searched after over known cs place at (bytes_of cuts) ≡ whole →
    searched after over next cs (place + 1) (at + length l) (bytes_of later) ≡ whole
search_step {S} after over known next class cs place at cuts later cut l whole made read goes steps is all =
    ap (λ (k : S). searched after over k cs (place + 1) (at + length l) (bytes_of later)) (made ∙ ap (λ (c : Option Class). after known c at l) read)
    ∙ search_more after over known cs place at cuts later cut l whole goes steps is all
