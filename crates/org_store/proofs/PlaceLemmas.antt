-- Sections around a place, by their lengths.
use Rattle.std.proofs.Common.{◌≡◌, ◌∙◌, ℕ, zero, suc, ◌+◌, ◌-◌, ◌<◌, ◌≤◌, List, [], ◌∷◌, map, length, take, refl, sym, ap, arith}
use Rattle.std.proofs.lemmas.Bool.{lt-ltb, le-ltb}
use Rattle.std.proofs.lemmas.List.Sums.{sum_by-cons}
use Rattle.std.proofs.Math.Numerals.{add-one}
use Rattle.std.specs.List.{sum_by}
use Rattle.org_class.specs.Changes.{ended_before, begun_by}
use Rattle.org_sequence.specs.Parts.{IsItemOf}

module _ {X : Type 0} (f : X → ℕ) where
  ended_is : (xs : List X) (i at : ℕ) → i < length xs → sum_by f (take i xs) < at → at ≤ sum_by f (take (suc i) xs) → ended_before at (map f xs) ≡ i
  ended_is [] i at lt low high = absurd (omega arith)
  ended_is (x ∷ xs) zero at lt low high =
      let sum = sum_by-cons f x [] in
      rw (le-ltb (f x) at (omega arith)) refl
  ended_is (x ∷ xs) (suc i) at lt low high =
      let a = sum_by-cons f x (take i xs) in
      let b = sum_by-cons f x (take (suc i) xs) in
      rw (lt-ltb (f x) at (omega arith)) (ap suc (ended_is xs i (at - f x) (omega arith) (omega arith) (omega arith)))

  begun_is : (xs : List X) (i at : ℕ) → i < length xs → sum_by f (take i xs) ≤ at → at < sum_by f (take (suc i) xs) → begun_by at (map f xs) ≡ suc i
  begun_is [] i at lt low high = absurd (omega arith)
  begun_is (x ∷ xs) zero at lt low high =
      let sum = sum_by-cons f x [] in
      rw (lt-ltb at (f x) (omega arith)) refl
  begun_is (x ∷ xs) (suc i) at lt low high =
      let a = sum_by-cons f x (take i xs) in
      let b = sum_by-cons f x (take (suc i) xs) in
      rw (le-ltb at (f x) (omega arith)) (ap suc (begun_is xs i (at - f x) (omega arith) (omega arith) (omega arith)))

  -- all begin at the end of the last or before it
  pub begun_all : (xs : List X) (at : ℕ) → sum_by f xs ≤ at → length xs ≡ begun_by at (map f xs)
  begun_all [] at past = refl
  begun_all (x ∷ xs) at past =
      let a = sum_by-cons f x xs in
      rw (le-ltb at (f x) (omega arith)) (ap suc (begun_all xs (at - f x) (omega arith)))

  -- the item that holds the place before is the first that doesn't end before a place
  pub ended_item : (xs : List X) (at i before : ℕ) → IsItemOf f xs (at - 1) i before → 0 < at → i ≡ ended_before at (map f xs)
  ended_item xs at i before h some =
      let low = h.begun in
      let high = rw add-one at h.ended in
      sym (ended_is xs i at h.within (omega (arith, h.before_is)) (omega arith))

  -- after the item that holds a place the next begins later
  pub begun_item : (xs : List X) (at i before : ℕ) → IsItemOf f xs at i before → i + 1 ≡ begun_by at (map f xs)
  begun_item xs at i before h =
      let low = h.begun in
      let high = rw add-one at h.ended in
      add-one i ∙ sym (begun_is xs i at h.within (omega (arith, h.before_is)) (omega arith))

-- none ends before the beginning
pub ended_none : (at : ℕ) (ns : List ℕ) → at ≡ 0 → 0 ≡ ended_before at ns
ended_none at [] none = refl
ended_none at (n ∷ ns) none = rw (le-ltb n at (omega (arith, none))) refl
