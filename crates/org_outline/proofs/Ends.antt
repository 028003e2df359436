-- The way forward over later entries.
use Rattle.std.proofs.Common.{◌≡◌, ℕ, zero, suc, ◌+◌, ◌-◌, ◌<◌, ◌≤◌, true, false, Option, Some, None, List, length, refl, subst, ◌⊎◌, inl, inr, arith}
use Rattle.std.proofs.lemmas.Bool.{leb-false, lt-leb}
use Rattle.org_outline.specs.Places.{least_from}
use Rattle.org_outline.specs.Tree.{level_at, ends, end_of}
use Rattle.org_outline.proofs.Search.{IsLeast, least_is, least_one}

-- what ends neither the subtree of an entry nor that of an entry in it
pub still_below : (x y z : Option ℕ) → ends x y ≡ false → ends y z ≡ false → ends x z ≡ false
still_below None y z h g = cc
still_below (Some a) None z h g = cc
still_below (Some a) (Some b) None h g = refl
still_below (Some a) (Some b) (Some d) h g = lt-leb d a (omega (arith, leb-false b a h, leb-false d b g))

-- an end of entry i
abbrev pub IsEnd : List (Option ℕ) → ℕ → ℕ → Type 0
IsEnd ls i e = IsLeast (λ j. ends (level_at ls i) (level_at ls j)) (i + 1) (length ls) e

pub end_is : (ls : List (Option ℕ)) (i : ℕ) → i < length ls → IsEnd ls i (end_of ls i)
end_is ls i h =
    let e : i + 1 + (length ls - (i + 1)) ≡ length ls = omega arith in
    subst (λ (x : ℕ). IsLeast (λ j. ends (level_at ls i) (level_at ls j)) (i + 1) x (end_of ls i)) e
    (least_is (λ j. ends (level_at ls i) (level_at ls j)) (i + 1) (length ls - (i + 1)))

-- all between entry i and e are below it
pub record BelowUpTo (ls : List (Option ℕ)) (i e : ℕ) : Type 0 where
  pub from : i < e
  pub within : e ≤ length ls
  pub first : (k : ℕ) → i < k → k < e → ends (level_at ls i) (level_at ls k) ≡ false

pub end_found : (ls : List (Option ℕ)) (i e : ℕ) → BelowUpTo ls i e → (e < length ls → ends (level_at ls i) (level_at ls e) ≡ true) → end_of ls i ≡ e
end_found ls i e b h =
    least_one (λ j. ends (level_at ls i) (level_at ls j)) (i + 1) (length ls) (end_of ls i) e
    (end_is ls i (omega (arith, b.from, b.within)))
    record { from = omega (arith, b.from); within = b.within; first = λ k x y. b.first k (omega arith) y; passes = h }

cases_at : (e k : ℕ) → (k < e) ⊎ (k ≡ e) ⊎ (e < k)
cases_at e k = grind arith

over_first : (ls : List (Option ℕ)) (i e : ℕ) → BelowUpTo ls i e → IsEnd ls e (end_of ls e) → ends (level_at ls i) (level_at ls e) ≡ false → (k : ℕ) → i < k → k < end_of ls e → ends (level_at ls i) (level_at ls k) ≡ false
over_first ls i e b r h k x y = elim (cases_at e k) [
  | inl l ↦ b.first k x l
  | inr z ↦ elim z [
    | inl q ↦ rw q h
    | inr l ↦ still_below (level_at ls i) (level_at ls e) (level_at ls k) h (r.first k (omega arith) y)
  ]
]

-- over an entry that is below, to the end of its subtree
pub over_subtree : (ls : List (Option ℕ)) (i e : ℕ) → BelowUpTo ls i e → e < length ls → ends (level_at ls i) (level_at ls e) ≡ false → BelowUpTo ls i (end_of ls e)
over_subtree ls i e b l h =
    let r = end_is ls e l in
    record { from = omega (arith, b.from, r.from); within = r.within; first = over_first ls i e b r h }

first_ends : (ls : List (Option ℕ)) (a n : ℕ) → least_from (λ j. ends None (level_at ls j)) a n ≡ a
first_ends ls a zero = refl
first_ends ls a (suc n) = refl

-- an entry that is no heading has its end right after it
pub no_heading_end : (ls : List (Option ℕ)) (i : ℕ) → level_at ls i ≡ None → end_of ls i ≡ i + 1
no_heading_end ls i h = rw h (first_ends ls (i + 1) (length ls - (i + 1)))
