-- Stamps taken out, one by one.
use Rattle.std.proofs.Common.{◌≡◌, ◌∙◌, ℕ, ◌+◌, ◌<◌, ◌≤◌, Bool, true, false, cond, List, [], ◌∷◌, ◌++◌, length, drop, get_or, inl, inr, sym, ap, ap₂, refl, subst, arith}
use Rattle.std.specs.Prelude.{Option, Some, None}
use Rattle.std.specs.List.{sum_by}
use Rattle.std.specs.List.Sorted.{IsStrictlySortedBy}
use Rattle.std.specs.BTreeMap.{is_at}
use Rattle.std.specs.Map.{keys_of, lookup, remove_entry}
use Rattle.std.specs.Ordering.{nat_cmp}
use Rattle.std.proofs.lemmas.Bool.{cases_Bool}
use Rattle.std.proofs.lemmas.Bool.Decides.{nat_tests}
use Rattle.std.proofs.lemmas.List.{drop_more, drop_all}
use Rattle.std.proofs.lemmas.List.Sums.{sum_by-cons}
use Rattle.org_base.specs.declared.profile.Profile.{Profile}
use Rattle.org_index.specs.Reaches.{reach_of}
use Rattle.org_index.specs.declared.reach.Reach.{Reach}
use Rattle.org_index.proofs.CandidateLemmas.{Rise, rises}
use Rattle.org_entry.specs.declared.active.EntryStamp.{EntryStamp}
use Rattle.org_stamp_index.specs.Index.{HaveSame, LeavesRest, ids_of}

own_id : (z : ℕ) → is_at (nat_cmp z) z ≡ true
own_id z = grind (arith, nat_tests)

same_id : (z k : ℕ) → is_at (nat_cmp z) k ≡ true → k ≡ z
same_id z k h = grind (arith, nat_tests)

-- the weight of what stands under an id, and of nothing else
abbrev only : ℕ → (ℕ × Reach → ℕ) → ℕ × Reach → ℕ
only id weight p = cond (is_at (nat_cmp id) p.0) (weight p) 0

-- the weight of what an id leads to
abbrev own : (ℕ × Reach → ℕ) → ℕ → Option Reach → ℕ
own weight id None = 0
own weight id (Some e) = weight (id, e)

-- what an id leads to and all others are all
parts : (weight : ℕ × Reach → ℕ) (id : ℕ) (ps : List (ℕ × Reach)) → sum_by weight ps ≡ own weight id (lookup (is_at (nat_cmp id)) ps) + sum_by weight (remove_entry (is_at (nat_cmp id)) ps)
parts weight id [] = refl
parts weight id (p ∷ ps) = elim (cases_Bool (is_at (nat_cmp id) p.0)) [
  | inl here ↦ rw here (sum_by-cons weight p ps ∙ ap (λ k. weight (k, p.1) + sum_by weight ps) (same_id id p.0 here))
  | inr away ↦ rw away (sum_by-cons weight p ps ∙ omega (arith, parts weight id ps, sum_by-cons weight p (remove_entry (is_at (nat_cmp id)) ps)))
]

-- above an id there is none of its own
none_above : (weight : ℕ × Reach → ℕ) (id from : ℕ) (ps : List (ℕ × Reach)) → id < from → Rise from (keys_of ps) → sum_by (only id weight) ps ≡ 0
none_above weight id from [] lt up = refl
none_above weight id from (p ∷ ps) lt up =
    let off : is_at (nat_cmp id) p.0 ≡ false = grind (arith, nat_tests, lt, up.0) in
    let more = none_above weight id (p.0 + 1) ps (omega (arith, lt, up.0)) up.1 in
    sum_by-cons (only id weight) p ps ∙ ap₂ (λ a b. a + b) (ap (λ b. cond b (weight p) 0) off) more

-- what is left when an id is gone has nothing under it
none_left : (weight : ℕ × Reach → ℕ) (id from : ℕ) (ps : List (ℕ × Reach)) → Rise from (keys_of ps) → sum_by (only id weight) (remove_entry (is_at (nat_cmp id)) ps) ≡ 0
none_left weight id from [] up = refl
none_left weight id from (p ∷ ps) up = elim (cases_Bool (is_at (nat_cmp id) p.0)) [
  | inl here ↦ rw here (let lt : id < p.0 + 1 = omega (arith, same_id id p.0 here) in none_above weight id (p.0 + 1) ps lt up.1)
  | inr away ↦ rw away (
      sum_by-cons (only id weight) p (remove_entry (is_at (nat_cmp id)) ps) ∙ ap₂ (λ a b. a + b) (ap (λ b. cond b (weight p) 0) away) (none_left weight id (p.0 + 1) ps up.1)
      )
]

-- where nothing stands under an id it weighs nothing
weighs_none : (weight : ℕ × Reach → ℕ) (id : ℕ) (ps : List (ℕ × Reach)) → sum_by (only id (λ p. 1)) ps ≡ 0 → sum_by (only id weight) ps ≡ 0
weighs_none weight id [] none = refl
weighs_none weight id (p ∷ ps) none =
    let both : only id (λ p. 1) p + sum_by (only id (λ p. 1)) ps ≡ 0 = sym (sum_by-cons (only id (λ p. 1)) p ps) ∙ none in
    elim (cases_Bool (is_at (nat_cmp id) p.0)) [
      | inl here ↦ let one : only id (λ p. 1) p ≡ 1 = ap (λ b. cond b 1 0) here in absurd (omega (arith, both, one))
      | inr away ↦
          let rest : sum_by (only id (λ p. 1)) ps ≡ 0 = omega (arith, both) in
          sum_by-cons (only id weight) p ps ∙ ap₂ (λ a b. a + b) (ap (λ b. cond b (weight p) 0) away) (weighs_none weight id ps rest)
    ]

at_most_one : (id : ℕ) (o : Option Reach) → own (only id (λ p. 1)) id o ≤ 1
at_most_one id None = omega arith
at_most_one id (Some e) = let one : only id (λ p. 1) (id, e) ≡ 1 = ap (λ b. cond b 1 0) (own_id id) in omega (arith, one)

own_only : (weight : ℕ × Reach → ℕ) (id : ℕ) (o : Option Reach) → own (only id weight) id o ≡ own weight id o
own_only weight id None = refl
own_only weight id (Some e) = ap (λ b. cond b (weight (id, e)) 0) (own_id id)

-- one id less, and its stamp
pub same_taken : (id : ℕ) (e : Reach) (rest ps : List (ℕ × Reach)) → IsStrictlySortedBy nat_cmp (keys_of ps) → HaveSame ((id, e) ∷ rest) ps → HaveSame rest (remove_entry (is_at (nat_cmp id)) ps)
same_taken id e rest ps up same weight =
    let rise = rises (keys_of ps) up in
    let o = lookup (is_at (nat_cmp id)) ps in
    let ones : ℕ × Reach → ℕ = only id (λ p. 1) in
    let mine : ℕ × Reach → ℕ = only id weight in
    -- nothing else stands under the id
    let had : ones (id, e) + sum_by ones rest ≡ sum_by ones ps = sym (sum_by-cons ones (id, e) rest) ∙ same ones in
    let one : ones (id, e) ≡ 1 = ap (λ b. cond b 1 0) (own_id id) in
    let none : sum_by ones rest ≡ 0 = omega (arith, had, one, parts ones id ps, none_left (λ p. 1) id 0 ps rise, at_most_one id o) in
    -- so what stands there weighs the same
    let has : mine (id, e) + sum_by mine rest ≡ sum_by mine ps = sym (sum_by-cons mine (id, e) rest) ∙ same mine in
    let own_is : mine (id, e) ≡ weight (id, e) = ap (λ b. cond b (weight (id, e)) 0) (own_id id) in
    let alike : weight (id, e) ≡ own weight id o = omega (arith, has, own_is, weighs_none weight id rest none, parts mine id ps, none_left weight id 0 ps rise, own_only weight id o) in
    let whole : weight (id, e) + sum_by weight rest ≡ sum_by weight ps = sym (sum_by-cons weight (id, e) rest) ∙ same weight in
    omega (arith, whole, alike, parts weight id ps)

-- of some stamps one is taken out after the other
module _ (q : Profile) (wanted : EntryStamp → Bool) where
  -- so much is left to be taken out
  abbrev pub IsLeft : ℕ → List EntryStamp → ℕ → List (ℕ × Reach) → List (ℕ × Reach) → Type 0
  IsLeft first all i old new = (rest : List (ℕ × Reach)) → HaveSame (ids_of q wanted first all ++ rest) old → HaveSame (ids_of q wanted (first + i) (drop i all) ++ rest) new

  pub left_all : (first : ℕ) (all : List EntryStamp) (old : List (ℕ × Reach)) → IsLeft first all 0 old old
  left_all first all old rest same = subst (λ n. HaveSame (ids_of q wanted n all ++ rest) old) (let e : first ≡ first + 0 = omega arith in e) same

  pub left_none : (first : ℕ) (all : List EntryStamp) (i : ℕ) (old new : List (ℕ × Reach)) → length all ≤ i → IsLeft first all i old new → LeavesRest (ids_of q wanted first all) old new
  left_none first all i old new le left rest same = subst (λ ss. HaveSame (ids_of q wanted (first + i) ss ++ rest) new) (drop_all i all le) (left rest same)

  next_is : (first i : ℕ) (all : List EntryStamp) (s : EntryStamp) → i < length all → s ≡ get_or all i s → drop i all ≡ s ∷ drop (i + 1) all
  next_is first i all s lt at = drop_more all i s lt ∙ ap (λ y. y ∷ drop (i + 1) all) (sym at)

  after_is : (first i : ℕ) → first + i + 1 ≡ first + (i + 1)
  after_is first i = omega arith

  pub left_less : (first i id : ℕ) (all : List EntryStamp) (s : EntryStamp) (old mid : List (ℕ × Reach)) → i < length all → s ≡ get_or all i s → id ≡ first + i → wanted s ≡ true → IsStrictlySortedBy nat_cmp (keys_of mid) →
      IsLeft first all i old mid → IsLeft first all (i + 1) old (remove_entry (is_at (nat_cmp id)) mid)
  left_less first i id all s old mid lt at is wants up left rest same =
      let had : HaveSame (ids_of q wanted (first + i) (s ∷ drop (i + 1) all) ++ rest) mid = subst (λ ss. HaveSame (ids_of q wanted (first + i) ss ++ rest) mid) (next_is first i all s lt at) (left rest same) in
      let split : ids_of q wanted (first + i) (s ∷ drop (i + 1) all) ≡ (first + i, reach_of q s.stamp) ∷ ids_of q wanted (first + i + 1) (drop (i + 1) all) = rw wants refl in
      let one : HaveSame ((first + i, reach_of q s.stamp) ∷ (ids_of q wanted (first + i + 1) (drop (i + 1) all) ++ rest)) mid = subst (λ xs. HaveSame (xs ++ rest) mid) split had in
      subst (λ n. HaveSame (ids_of q wanted n (drop (i + 1) all) ++ rest) (remove_entry (is_at (nat_cmp id)) mid)) (after_is first i)
      (subst (λ n. HaveSame (ids_of q wanted (first + i + 1) (drop (i + 1) all) ++ rest) (remove_entry (is_at (nat_cmp n)) mid)) (sym is)
      (same_taken (first + i) (reach_of q s.stamp) (ids_of q wanted (first + i + 1) (drop (i + 1) all) ++ rest) mid up one))

  pub left_over : (first i : ℕ) (all : List EntryStamp) (s : EntryStamp) (old mid : List (ℕ × Reach)) → i < length all → s ≡ get_or all i s → wanted s ≡ false → IsLeft first all i old mid → IsLeft first all (i + 1) old mid
  left_over first i all s old mid lt at wants left rest same =
      let had : HaveSame (ids_of q wanted (first + i) (s ∷ drop (i + 1) all) ++ rest) mid = subst (λ ss. HaveSame (ids_of q wanted (first + i) ss ++ rest) mid) (next_is first i all s lt at) (left rest same) in
      let split : ids_of q wanted (first + i) (s ∷ drop (i + 1) all) ≡ ids_of q wanted (first + i + 1) (drop (i + 1) all) = rw wants refl in
      subst (λ n. HaveSame (ids_of q wanted n (drop (i + 1) all) ++ rest) mid) (after_is first i) (subst (λ xs. HaveSame (xs ++ rest) mid) split had)
