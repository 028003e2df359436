-- A clock line is one by the first stamp of its range.
use Rattle.std.proofs.Common.{◌≡◌, ℕ, Bool, false, not, ◌&&◌, ◌==◌, List, [], ◌∷◌, drop, refl, ap, ◌∙◌, inl, inr}
use Rattle.std.specs.Prelude.{Option, Some, None}
use Rattle.std.specs.Option.{option_and_then}
use Rattle.std.proofs.lemmas.Bool.{cases_Bool}
use Rattle.org_stamp.proofs.PairWords.{if_inactive, is_some_stamp}
use Rattle.org_stamp.specs.Read.{joined, ranged, same_bool, single_of, stamp_of}
use Rattle.org_stamp.specs.declared.stamp.Stamp.{Stamp}

-- with a second stamp or without one
joined_active : (s : Stamp) (n : ℕ) (o : Option (Stamp × ℕ)) → (joined s n o).0.active ≡ s.active
joined_active s n None = refl
joined_active s n (Some t) = elim (cases_Bool (same_bool s.active t.0.active)) [
  | inl is ↦ rw is refl
  | inr other ↦ rw other refl
]

ranged_active : (s : Stamp) (n : ℕ) (rest : List ℕ) → (ranged s n rest).0.active ≡ s.active
ranged_active s n [] = refl
ranged_active s n (a ∷ []) = refl
ranged_active s n (a ∷ b ∷ rest) = elim (cases_Bool ((a == 45) && (b == 45))) [
  | inl is ↦ rw is (joined_active s n (single_of rest))
  | inr other ↦ rw other refl
]

-- there is an inactive stamp where the first one is
some_inactive : (s : Stamp) → is_some_stamp (if_inactive s) ≡ not s.active
some_inactive s = elim (cases_Bool s.active) [
  | inl is ↦ rw is refl
  | inr other ↦ rw other refl
]

abbrev pub first_inactive : Option (Stamp × ℕ) → Bool
first_inactive None = false
first_inactive (Some f) = not f.0.active

by_first : (text : List ℕ) (o : Option (Stamp × ℕ)) → single_of text ≡ o → is_some_stamp (option_and_then (λ found. if_inactive found.0) (stamp_of text)) ≡ first_inactive o
by_first text None e = rw e refl
by_first text (Some f) e = rw e (some_inactive (ranged f.0 f.1 (drop f.1 text)).0 ∙ ap not (ranged_active f.0 f.1 (drop f.1 text)))

-- whether there is an inactive stamp is decided by the first one
pub first_decides : (text : List ℕ) → is_some_stamp (option_and_then (λ found. if_inactive found.0) (stamp_of text)) ≡ first_inactive (single_of text)
first_decides text = by_first text (single_of text) refl
