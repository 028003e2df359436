-- The ids of near stamps are those of the list.
use Rattle.std.proofs.Common.{◌≡◌, ◌∙◌, ◌↔◌, ◌⊎◌, ℕ, zero, suc, ◌+◌, ◌<◌, ◌≤◌, Bool, true, false, cond, List, [], ◌∷◌, length, get_or, inl, inr, refl, sym, ap, ap₂, subst, IsTrue, true≢false, arith}
use Rattle.std.specs.Prelude.{Option, Some, None, Contains, nat_le, ◌||◌, ◌&&◌}
use Rattle.std.specs.declared.cmp.Ordering.TheVariants.{Less}
use Rattle.std.specs.List.{filter, AllByRecursion}
use Rattle.std.specs.List.Sorted.{IsStrictlySortedBy}
use Rattle.std.specs.Ordering.{nat_cmp}
use Rattle.std.specs.BTreeMap.{is_at}
use Rattle.std.specs.Map.{keys_of, lookup}
use Rattle.std.proofs.lemmas.Bool.{cases_Bool}
use Rattle.std.proofs.lemmas.Bool.Decides.{nat_tests}
use Rattle.org_index.specs.declared.reach.Reach.{Reach}
use Rattle.org_index.specs.Near.{candidate_ids, is_candidate, is_touching, lies_in, meets, meets_if, touches, touches_if, touching_ids}

-- each number is at least a bound, and more than the one before
abbrev pub Rise : ℕ → List ℕ → Type 0
Rise from [] = Unit {0}
Rise from (x ∷ xs) = (from ≤ x) × Rise (x + 1) xs

abbrev Among : ℕ → List ℕ → Type 0
Among z [] = ⊥
Among z (x ∷ xs) = (z ≡ x) ⊎ Among z xs

less : (a b : ℕ) → nat_cmp a b ≡ Less → a < b
less a b h = grind (arith, nat_tests)

rises_from : (xs : List ℕ) (x : ℕ) → AllByRecursion (λ y. nat_cmp x y ≡ Less) xs → IsStrictlySortedBy nat_cmp xs → Rise (x + 1) xs
unfolding IsStrictlySortedBy
rises_from [] x all up = tt
rises_from (y ∷ ys) x all up = (omega (arith, less x y all.0), rises_from ys y up.0 up.1)

pub rises : (xs : List ℕ) → IsStrictlySortedBy nat_cmp xs → Rise 0 xs
unfolding IsStrictlySortedBy
rises [] up = tt
rises (x ∷ xs) up = (omega arith, rises_from xs x up.0 up.1)

above : (from : ℕ) (xs : List ℕ) (z : ℕ) → Rise from xs → Among z xs → from ≤ z
above from [] z up at = absurd at
above from (x ∷ xs) z up at = elim at [
  | inl e ↦ omega (arith, e, up.0)
  | inr more ↦ let later : x + 1 ≤ z = above (x + 1) xs z up.1 more in omega (arith, later, up.0)
]

wider : (a b : ℕ) (xs : List ℕ) → a ≤ b → Rise b xs → Rise a xs
wider a b [] le up = tt
wider a b (x ∷ xs) le up = (omega (arith, le, up.0), up.1)

-- lists that rise and have the same numbers are the same
same_numbers : (xs ys : List ℕ) (a b : ℕ) → Rise a xs → Rise b ys → ((z : ℕ) → Among z xs → Among z ys) → ((z : ℕ) → Among z ys → Among z xs) → xs ≡ ys
same_numbers [] [] a b up vp f g = refl
same_numbers [] (y ∷ ys) a b up vp f g = absurd (g y (inl refl))
same_numbers (x ∷ xs) [] a b up vp f g = absurd (f x (inl refl))
same_numbers (x ∷ xs) (y ∷ ys) a b up vp f g =
    let same : x ≡ y = elim (f x (inl refl)) [
      | inl e ↦ e
      | inr later ↦ elim (g y (inl refl)) [
        | inl e ↦ sym e
        | inr other ↦
            let p : y + 1 ≤ x = above (y + 1) ys x vp.1 later in
            let q : x + 1 ≤ y = above (x + 1) xs y up.1 other in
            absurd (omega (arith, p, q))
      ]
    ] in
    let on : (z : ℕ) → Among z xs → Among z ys = λ z at. elim (f z (inr at)) [
      | inl e ↦ let p : x + 1 ≤ z = above (x + 1) xs z up.1 at in absurd (omega (arith, p, e, same))
      | inr more ↦ more
    ] in
    let back : (z : ℕ) → Among z ys → Among z xs = λ z at. elim (g z (inr at)) [
      | inl e ↦ let p : y + 1 ≤ z = above (y + 1) ys z vp.1 at in absurd (omega (arith, p, e, same))
      | inr more ↦ more
    ] in
    ap₂ (λ (h : ℕ) (t : List ℕ). h ∷ t) same (same_numbers xs ys (x + 1) (y + 1) up.1 vp.1 on back)

among_from : (xs : List ℕ) (z k : ℕ) → k < length xs → get_or xs k z ≡ z → Among z xs
among_from [] z k lt e = absurd (omega (arith, lt))
among_from (x ∷ xs) z zero lt e = inl (sym e)
among_from (x ∷ xs) z (suc k) lt e = inr (among_from xs z k (omega (arith, lt)) e)

among : (xs : List ℕ) (z : ℕ) → Contains xs z → Among z xs
among xs z h = among_from xs z h.0 h.1 h.2

contains_of : (xs : List ℕ) (z : ℕ) → Among z xs → Contains xs z
contains_of [] z at = absurd at
contains_of (x ∷ xs) z at = elim at [
  | inl e ↦ (0, omega arith, sym e)
  | inr more ↦ let h = contains_of xs z more in (suc h.0, omega (arith, h.1), h.2)
]

module _ (from to today : ℕ) where
  abbrev passes : ℕ × Reach → Bool
  passes p = meets from to today p.1

  ids_rise : (a : ℕ) (pairs : List (ℕ × Reach)) → Rise a (keys_of pairs) → Rise a (candidate_ids from to today pairs)
  ids_rise a [] up = tt
  ids_rise a (p ∷ ps) up = elim (cases_Bool (meets from to today p.1)) [
    | inl near ↦ rw near (up.0, ids_rise (p.0 + 1) ps up.1)
    | inr far ↦ rw far (wider a (p.0 + 1) (candidate_ids from to today ps) (omega (arith, up.0)) (ids_rise (p.0 + 1) ps up.1))
  ]

  at_own : (z : ℕ) → is_at (nat_cmp z) z ≡ true
  at_own z = grind (arith, nat_tests)

  at_other : (z k : ℕ) → k < z → is_at (nat_cmp z) k ≡ false
  at_other z k lt = grind (arith, nat_tests)

  at_same : (z k : ℕ) → is_at (nat_cmp z) k ≡ true → z ≡ k
  at_same z k e = grind (arith, nat_tests)

  near_own : (z : ℕ) (p : ℕ × Reach) (ps : List (ℕ × Reach)) → z ≡ p.0 → is_candidate (p ∷ ps) from to today z ≡ meets from to today p.1
  near_own z p ps same =
      let here : is_at (nat_cmp z) p.0 ≡ true = ap (λ k. is_at (nat_cmp z) k) (sym same) ∙ at_own z in
      ap (λ b. meets_if from to today (cond b (Some p.1) (lookup (is_at (nat_cmp z)) ps))) here

  near_rest : (z : ℕ) (p : ℕ × Reach) (ps : List (ℕ × Reach)) → is_at (nat_cmp z) p.0 ≡ false → is_candidate (p ∷ ps) from to today z ≡ is_candidate ps from to today z
  near_rest z p ps other = ap (λ b. meets_if from to today (cond b (Some p.1) (lookup (is_at (nat_cmp z)) ps))) other

  listed_is : (z a : ℕ) (pairs : List (ℕ × Reach)) → Rise a (keys_of pairs) → Among z (candidate_ids from to today pairs) → is_candidate pairs from to today z ≡ true
  listed_is z a [] up at = absurd at
  listed_is z a (p ∷ ps) up at =
      let rest : Among z (candidate_ids from to today ps) → is_candidate (p ∷ ps) from to today z ≡ true = λ more.
      (let later : p.0 + 1 ≤ z = above (p.0 + 1) (candidate_ids from to today ps) z (ids_rise (p.0 + 1) ps up.1) more in
      near_rest z p ps (at_other z p.0 (omega (arith, later))) ∙ listed_is z (p.0 + 1) ps up.1 more) in
      elim (cases_Bool (meets from to today p.1)) [
        | inl near ↦
            let both : Among z (p.0 ∷ candidate_ids from to today ps) = subst (λ b. Among z (keys_of (cond b (p ∷ filter passes ps) (filter passes ps)))) near at in
            elim both [ inl same ↦ near_own z p ps same ∙ near | inr more ↦ rest more ]
        | inr far ↦ rest (subst (λ b. Among z (keys_of (cond b (p ∷ filter passes ps) (filter passes ps)))) far at)
      ]

  is_listed : (z : ℕ) (pairs : List (ℕ × Reach)) → is_candidate pairs from to today z ≡ true → Among z (candidate_ids from to today pairs)
  is_listed z [] h = absurd (true≢false (sym h))
  is_listed z (p ∷ ps) h = elim (cases_Bool (is_at (nat_cmp z) p.0)) [
    | inl here ↦
        let same : z ≡ p.0 = at_same z p.0 here in
        let near : meets from to today p.1 ≡ true = sym (near_own z p ps same) ∙ h in
        subst (λ b. Among z (keys_of (cond b (p ∷ filter passes ps) (filter passes ps)))) (sym near) (inl same)
    | inr other ↦
        let more : Among z (candidate_ids from to today ps) = is_listed z ps (sym (near_rest z p ps other) ∙ h) in
        elim (cases_Bool (meets from to today p.1)) [
          | inl near ↦ subst (λ b. Among z (keys_of (cond b (p ∷ filter passes ps) (filter passes ps)))) (sym near) (inr more)
          | inr far ↦ subst (λ b. Among z (keys_of (cond b (p ∷ filter passes ps) (filter passes ps)))) (sym far) more
        ]
  ]

  pub candidates_are : (pairs : List (ℕ × Reach)) (ids : List ℕ) → IsStrictlySortedBy nat_cmp (keys_of pairs) → IsStrictlySortedBy nat_cmp ids →
      ((id : ℕ) → Contains ids id ↔ IsTrue (is_candidate pairs from to today id)) → ids ≡ candidate_ids from to today pairs
  candidates_are pairs ids up vp exact =
      same_numbers ids (candidate_ids from to today pairs) 0 0 (rises ids vp) (ids_rise 0 pairs (rises (keys_of pairs) up))
      (λ z at. is_listed z pairs ((exact z).0 (contains_of ids z at)))
      (λ z at. among ids z ((exact z).1 (listed_is z 0 pairs (rises (keys_of pairs) up) at)))

-- the day after the last is none of the days, so with it none but those that touch them are near
beyond : (from to : ℕ) → lies_in from to (to + 1) ≡ false
beyond from to = grind (arith, nat_tests)

or_false : (a : Bool) → (a || false) ≡ a
or_false true = refl
or_false false = refl

meets_beyond : (from to : ℕ) (e : Reach) → meets from to (to + 1) e ≡ touches from to e
meets_beyond from to e = ap (λ t. touches from to e || (t && nat_le e.warned (to + 1))) (beyond from to) ∙ or_false (touches from to e)

pub touching_is : (from to : ℕ) (pairs : List (ℕ × Reach)) → candidate_ids from to (to + 1) pairs ≡ touching_ids from to pairs
touching_is from to [] = refl
touching_is from to (p ∷ ps) =
    elim (cases_Bool (touches from to p.1)) [
      | inl near ↦ let both : meets from to (to + 1) p.1 ≡ true = meets_beyond from to p.1 ∙ near in rw (both, near) (ap (λ t. p.0 ∷ t) (touching_is from to ps))
      | inr far ↦ let both : meets from to (to + 1) p.1 ≡ false = meets_beyond from to p.1 ∙ far in rw (both, far) (touching_is from to ps)
    ]

touches_beyond : (from to : ℕ) (o : Option Reach) → meets_if from to (to + 1) o ≡ touches_if from to o
touches_beyond from to None = refl
touches_beyond from to (Some e) = meets_beyond from to e

pub is_touching_too : (from to id : ℕ) (pairs : List (ℕ × Reach)) → is_candidate pairs from to (to + 1) id ≡ is_touching pairs from to id
is_touching_too from to id pairs = touches_beyond from to (lookup (is_at (nat_cmp id)) pairs)
