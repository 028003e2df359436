-- Items with ids, by what they add up to.
use Rattle.std.proofs.Common.{◌≡◌, ◌∙◌, ℕ, suc, ◌+◌, ◌<◌, ◌≤◌, Bool, true, false, cond, List, [], ◌∷◌, ◌++◌, length, inl, inr, sym, ap, ap₂, refl, subst, arith}
use Rattle.std.specs.Prelude.{Some, None, nat_lt}
use Rattle.std.specs.List.{sum_by}
use Rattle.std.specs.BTreeMap.{insert_entry, is_at}
use Rattle.std.specs.Map.{lookup}
use Rattle.std.specs.Ordering.{nat_cmp}
use Rattle.std.specs.declared.cmp.Ordering.TheVariants.{Greater}
use Rattle.std.proofs.lemmas.Bool.{cases_Bool}
use Rattle.std.proofs.lemmas.Bool.Decides.{nat_tests}
use Rattle.std.proofs.lemmas.List.Sums.{sum_by-cons}
use Rattle.org_base.specs.declared.profile.Profile.{Profile}
use Rattle.org_index.specs.Reaches.{reach_of}
use Rattle.org_index.specs.declared.reach.Reach.{Reach}
use Rattle.org_entry.specs.declared.active.EntryStamp.{EntryStamp}
use Rattle.org_stamp_index.specs.Index.{AreBelow, HaveSame, ids_of}

-- a weight for what isn't less than a number
abbrev over : ℕ → ℕ × Reach → ℕ
over n p = cond (nat_lt p.0 n) 0 1

over_none : (n : ℕ) (ps : List (ℕ × Reach)) → AreBelow n ps → sum_by (over n) ps ≡ 0
over_none n [] below = refl
over_none n (p ∷ ps) below =
    let low : nat_lt p.0 n ≡ true = grind (arith, nat_tests, below.0) in
    sum_by-cons (over n) p ps ∙ ap₂ (λ a b. a + b) (ap (λ b. cond b 0 1) low) (over_none n ps below.1)

none_over : (n : ℕ) (ps : List (ℕ × Reach)) → sum_by (over n) ps ≡ 0 → AreBelow n ps
none_over n [] none = tt
none_over n (p ∷ ps) none =
    let both : over n p + sum_by (over n) ps ≡ 0 = sym (sum_by-cons (over n) p ps) ∙ none in
    elim (cases_Bool (nat_lt p.0 n)) [
      | inl low ↦ (grind (arith, nat_tests), none_over n ps (omega (arith, both)))
      | inr high ↦
          let one : over n p ≡ 1 = ap (λ b. cond b 0 1) high in
          absurd (omega (arith, both, one))
    ]

-- items that are the same are below the same number
pub below_same : (n : ℕ) (xs ys : List (ℕ × Reach)) → HaveSame xs ys → AreBelow n xs → AreBelow n ys
below_same n xs ys same below = none_over n ys (sym (same (over n)) ∙ over_none n xs below)

pub below_more : (n m : ℕ) (ps : List (ℕ × Reach)) → n ≤ m → AreBelow n ps → AreBelow m ps
below_more n m [] le below = tt
below_more n m (p ∷ ps) le below = (omega (arith, le, below.0), below_more n m ps le below.1)

pub below_append : (n : ℕ) (xs ys : List (ℕ × Reach)) → AreBelow n xs → AreBelow n ys → AreBelow n (xs ++ ys)
below_append n [] ys a b = b
below_append n (x ∷ xs) ys a b = (a.0, below_append n xs ys a.1 b)

pub below_behind : (n : ℕ) (xs ys : List (ℕ × Reach)) → AreBelow n (xs ++ ys) → AreBelow n ys
below_behind n [] ys a = a
below_behind n (x ∷ xs) ys a = below_behind n xs ys a.1

-- the next id isn't among those below it
pub below_none : (n : ℕ) (ps : List (ℕ × Reach)) → AreBelow n ps → lookup (is_at (nat_cmp n)) ps ≡ None
below_none n [] below = refl
below_none n (p ∷ ps) below =
    let off : is_at (nat_cmp n) p.0 ≡ false = grind (arith, nat_tests, below.0) in
    ap (λ b. cond b (Some p.1) (lookup (is_at (nat_cmp n)) ps)) off ∙ below_none n ps below.1

greater : (n k : ℕ) → k < n → nat_cmp n k ≡ Greater
greater n k lt = grind (arith, nat_tests)

-- the next id goes after all others
insert_last : (n : ℕ) (e : Reach) (p : ℕ × Reach) (ps : List (ℕ × Reach)) → p.0 < n → insert_entry nat_cmp (p ∷ ps) n e ≡ p ∷ insert_entry nat_cmp ps n e
insert_last n e p ps lt = rw (greater n p.0 lt) refl

pub sum_insert : (weight : ℕ × Reach → ℕ) (n : ℕ) (e : Reach) (ps : List (ℕ × Reach)) → AreBelow n ps → sum_by weight (insert_entry nat_cmp ps n e) ≡ weight (n, e) + sum_by weight ps
sum_insert weight n e [] below = sum_by-cons weight (n, e) []
sum_insert weight n e (p ∷ ps) below =
    let more = sum_insert weight n e ps below.1 in
    ap (sum_by weight) (insert_last n e p ps below.0) ∙ sum_by-cons weight p (insert_entry nat_cmp ps n e) ∙ omega (arith, more, sum_by-cons weight p ps)

pub below_insert : (n : ℕ) (e : Reach) (ps : List (ℕ × Reach)) → AreBelow n ps → AreBelow (n + 1) (insert_entry nat_cmp ps n e)
below_insert n e [] below = (omega arith, tt)
below_insert n e (p ∷ ps) below = subst (AreBelow (n + 1)) (sym (insert_last n e p ps below.0)) (omega (arith, below.0), below_insert n e ps below.1)

module _ (q : Profile) (wanted : EntryStamp → Bool) (weight : ℕ × Reach → ℕ) where
  -- the ids of stamps, and after them those of others
  pub sum_ids_append : (id : ℕ) (xs ys : List EntryStamp) → sum_by weight (ids_of q wanted id (xs ++ ys)) ≡ sum_by weight (ids_of q wanted id xs) + sum_by weight (ids_of q wanted (id + length xs) ys)
  sum_ids_append id [] ys = let same = ap (λ n. sum_by weight (ids_of q wanted n ys)) (let e : id ≡ id + 0 = omega arith in e) in omega (arith, same)
  sum_ids_append id (x ∷ xs) ys =
      let more : sum_by weight (ids_of q wanted (id + 1) (xs ++ ys)) ≡ sum_by weight (ids_of q wanted (id + 1) xs) + sum_by weight (ids_of q wanted (id + suc (length xs)) ys) =
      sum_ids_append (id + 1) xs ys ∙ ap (λ n. sum_by weight (ids_of q wanted (id + 1) xs) + sum_by weight (ids_of q wanted n ys)) (let e : id + 1 + length xs ≡ id + suc (length xs) = omega arith in e) in
      elim (cases_Bool (wanted x)) [
        | inl yes' ↦ rw yes' (sum_by-cons weight (id, reach_of q x.stamp) (ids_of q wanted (id + 1) (xs ++ ys)) ∙ omega (arith, more, sum_by-cons weight (id, reach_of q x.stamp) (ids_of q wanted (id + 1) xs)))
        | inr no' ↦ rw no' more
      ]
