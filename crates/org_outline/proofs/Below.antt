-- The entries below a heading are those of its subtree.
use Rattle.std.proofs.Common.{◌≡◌, ℕ, zero, suc, ◌+◌, ◌-◌, ◌<◌, ◌≤◌, Bool, true, false, ◌||◌, ◌==◌, Option, Some, None, List, [], ◌∷◌, length, is_some, refl, subst, ◌⊎◌, inl, inr, arith}
use Rattle.std.proofs.lemmas.Bool.{leb-false, lt-leb, ltb-true, ltb-false, lt-ltb, eqb-true, eq-eqb, both_ways}
use Rattle.std.specs.List.{list_any}
use Rattle.org_outline.specs.Tree.{level_at, is_smaller, parent, ends, end_of, chain}
use Rattle.org_outline.specs.Laws.{is_above, AncestorsFall, AncestorsOfAncestors, SubtreeIsWhatIsBelow, EndIsNotBelow, SubtreesNest, OthersStandAlone}
use Rattle.org_outline.proofs.Parents.{no_heading_no_parent}
use Rattle.org_outline.proofs.Search.{IsGreatest, IsLeast, greatest_none, greatest_some}
use Rattle.org_outline.proofs.Ends.{still_below, end_is, no_heading_end}

-- j is in the subtree of i, and isn't i itself
pub record Inside (ls : List (Option ℕ)) (i j : ℕ) : Type 0 where
  pub after : i < j
  pub heading : is_some (level_at ls j) ≡ true
  pub first : (k : ℕ) → i < k → k ≤ j → ends (level_at ls i) (level_at ls k) ≡ false

-- the levels: x of the parent, y of the entry, z between them
between : (x y z : Option ℕ) → is_smaller x y ≡ true → is_smaller z y ≡ false → ends x z ≡ false
between None y z h g = cc
between (Some a) None z h g = cc
between (Some a) (Some b) None h g = refl
between (Some a) (Some b) (Some d) h g = lt-leb d a (omega (arith, ltb-true a b h, ltb-false d b g))

not_ended : (x y : Option ℕ) → is_smaller x y ≡ true → ends x y ≡ false
not_ended None y h = cc
not_ended (Some a) None h = cc
not_ended (Some a) (Some b) h = lt-leb b a (ltb-true a b h)

smaller_again : (x y : Option ℕ) → ends x y ≡ false → is_some y ≡ true → is_smaller x y ≡ true
smaller_again None y h g = cc
smaller_again (Some a) None h g = cc
smaller_again (Some a) (Some b) h g = lt-ltb a b (leb-false b a h)

first_heading : (x y : Option ℕ) → is_smaller x y ≡ true → is_some x ≡ true
first_heading None y h = cc
first_heading (Some a) y h = refl

second_heading : (x y : Option ℕ) → is_smaller x y ≡ true → is_some y ≡ true
second_heading None y h = cc
second_heading (Some a) None h = cc
second_heading (Some a) (Some b) h = refl

-- the parent of j
abbrev Up : List (Option ℕ) → ℕ → ℕ → Type 0
Up ls j p = IsGreatest (λ k. is_smaller (level_at ls k) (level_at ls j)) j p

cases_le : (k j : ℕ) → k ≤ j → (k < j) ⊎ (k ≡ j)
cases_le k j h = grind arith

up_between : (ls : List (Option ℕ)) (j p : ℕ) → Up ls j p → (k : ℕ) → p < k → k ≤ j → ends (level_at ls p) (level_at ls k) ≡ false
up_between ls j p u k a b = elim (cases_le k j b) [
  | inl l ↦ between (level_at ls p) (level_at ls j) (level_at ls k) u.passes (u.last k a l)
  | inr e ↦ rw e (not_ended (level_at ls p) (level_at ls j) u.passes)
]

inside_up : (ls : List (Option ℕ)) (j p : ℕ) → Up ls j p → Inside ls p j
inside_up ls j p u = record { after = u.below; heading = second_heading (level_at ls p) (level_at ls j) u.passes; first = up_between ls j p u }

cases_k : (k p : ℕ) → (k ≤ p) ⊎ (p < k)
cases_k k p = grind arith

inside_more_at : (ls : List (Option ℕ)) (i j p : ℕ) → Up ls j p → Inside ls i p → (k : ℕ) → i < k → k ≤ j → ends (level_at ls i) (level_at ls k) ≡ false
inside_more_at ls i j p u r k a b = elim (cases_k k p) [
  | inl l ↦ r.first k a l
  | inr l ↦ still_below (level_at ls i) (level_at ls p) (level_at ls k) (r.first p r.after (omega arith)) (up_between ls j p u k l b)
]

inside_more : (ls : List (Option ℕ)) (i j p : ℕ) → Up ls j p → Inside ls i p → Inside ls i j
inside_more ls i j p u r = record { after = omega (arith, r.after, u.below); heading = second_heading (level_at ls p) (level_at ls j) u.passes; first = inside_more_at ls i j p u r }

-- an ancestor's subtree holds the entry
abbrev next : List (Option ℕ) → ℕ → Option ℕ → List ℕ
next ls n p = elim p [ None ↦ [] | Some j ↦ j ∷ chain ls n j ]

or_cases : (a b : Bool) → (a || b) ≡ true → (a ≡ true) ⊎ (b ≡ true)
or_cases true b h = inl refl
or_cases false b h = inr h

inside_next : (ls : List (Option ℕ)) (i n j : ℕ) (p : Option ℕ) → parent ls j ≡ p → list_any (λ k. k == i) (next ls n p) ≡ true →
    ((p : ℕ) → list_any (λ k. k == i) (chain ls n p) ≡ true → Inside ls i p) → Inside ls i j
inside_next ls i n j None e h more = cc
inside_next ls i n j (Some p) e h more =
    let u : Up ls j p = greatest_some (λ k. is_smaller (level_at ls k) (level_at ls j)) j p e in
    elim (or_cases (p == i) (list_any (λ k. k == i) (chain ls n p)) h) [
      | inl q ↦ subst (λ (x : ℕ). Inside ls x j) (eqb-true p i q) (inside_up ls j p u)
      | inr q ↦ inside_more ls i j p u (more p q)
    ]

-- the parent is the heading itself or in its subtree
cases_up : (i p : ℕ) → (p < i) ⊎ (p ≡ i) ⊎ (i < p)
cases_up i p = grind arith

smaller_inside : (ls : List (Option ℕ)) (i j : ℕ) → Inside ls i j → is_smaller (level_at ls i) (level_at ls j) ≡ true
smaller_inside ls i j r = smaller_again (level_at ls i) (level_at ls j) (r.first j r.after (omega arith)) r.heading

or_right : (a b : Bool) → b ≡ true → (a || b) ≡ true
or_right true b h = refl
or_right false b h = h

above_next : (ls : List (Option ℕ)) (i n j : ℕ) (p : Option ℕ) → parent ls j ≡ p → j ≤ suc n → Inside ls i j →
    ((p : ℕ) → p ≤ n → Inside ls i p → list_any (λ k. k == i) (chain ls n p) ≡ true) → list_any (λ k. k == i) (next ls n p) ≡ true
above_next ls i n j None e l r more =
    absurd (both_ways (is_smaller (level_at ls i) (level_at ls j)) (greatest_none (λ k. is_smaller (level_at ls k) (level_at ls j)) j e i (omega arith) r.after) (smaller_inside ls i j r))
above_next ls i n j (Some p) e l r more =
    let u : Up ls j p = greatest_some (λ k. is_smaller (level_at ls k) (level_at ls j)) j p e in
    elim (cases_up i p) [
      | inl q ↦ absurd (both_ways (is_smaller (level_at ls i) (level_at ls j)) (u.last i q r.after) (smaller_inside ls i j r))
      | inr z ↦ elim z [
        | inl q ↦ rw (eq-eqb p i q) refl
        | inr q ↦ or_right (p == i) (list_any (λ k. k == i) (chain ls n p)) (more p (omega (arith, u.below)) record {
          after = q;
          heading = first_heading (level_at ls p) (level_at ls j) u.passes;
          first = λ k a b. r.first k a (omega (arith, u.below));
        })
      ]
    ]

pub above_inside : (ls : List (Option ℕ)) (i n j : ℕ) → list_any (λ k. k == i) (chain ls n j) ≡ true → Inside ls i j
above_inside ls i zero j h = cc
above_inside ls i (suc n) j h = inside_next ls i n j (parent ls j) refl h (λ p. above_inside ls i n p)

pub inside_above : (ls : List (Option ℕ)) (i n j : ℕ) → j ≤ n → Inside ls i j → list_any (λ k. k == i) (chain ls n j) ≡ true
inside_above ls i zero j l r = absurd (omega (arith, r.after))
inside_above ls i (suc n) j l r = above_next ls i n j (parent ls j) refl l r (λ p. inside_above ls i n p)

-- past the end there is no level
pub past_none : (ls : List (Option ℕ)) (j : ℕ) → is_some (level_at ls j) ≡ true → j < length ls
past_none [] j h = cc
past_none (x ∷ ls) zero h = omega arith
past_none (x ∷ ls) (suc j) h = omega (arith, past_none ls j h)

before_end : (ls : List (Option ℕ)) (i j e : ℕ) → Inside ls i j → IsLeast (λ k. ends (level_at ls i) (level_at ls k)) (i + 1) (length ls) e → j < length ls → j < e
before_end ls i j e r x l = elim (cases_k e j) [
  | inl h ↦ absurd (both_ways (ends (level_at ls i) (level_at ls e)) (r.first e (omega (arith, x.from)) h) (x.passes (omega arith)))
  | inr h ↦ h
]

pub inside_before_end : (ls : List (Option ℕ)) (i j : ℕ) → Inside ls i j → j < end_of ls i
inside_before_end ls i j r =
    let l = past_none ls j r.heading in
    let e = end_is ls i (omega (arith, r.after)) in
    before_end ls i j (end_of ls i) r e l

pub before_end_inside : (ls : List (Option ℕ)) (i j : ℕ) → i < j → j < end_of ls i → is_some (level_at ls j) ≡ true → Inside ls i j
before_end_inside ls i j a b h =
    let e = end_is ls i (omega (arith, past_none ls j h)) in
    record { after = a; heading = h; first = λ k x y. e.first k (omega arith) (omega arith) }

pub subtree_is_what_is_below : SubtreeIsWhatIsBelow
subtree_is_what_is_below ls i j = (
  λ h. let r = above_inside ls i j j h in (r.after, inside_before_end ls i j r, r.heading),
  λ h. inside_above ls i j j (omega arith) (before_end_inside ls i j h.0 h.1 h.2),
)

pub ancestors_fall : AncestorsFall
ancestors_fall ls i j h = let r = above_inside ls i j j h in (r.after, smaller_inside ls i j r)

nest : (ls : List (Option ℕ)) (i j : ℕ) → i < j → j < end_of ls i → j < length ls → end_of ls i < end_of ls j → ⊥
nest ls i j a b l h =
    let x = end_is ls i (omega arith) in
    let y = end_is ls j l in
    both_ways (ends (level_at ls i) (level_at ls (end_of ls i)))
    (still_below (level_at ls i) (level_at ls j) (level_at ls (end_of ls i)) (x.first j (omega arith) b) (y.first (end_of ls i) (omega arith) h))
    (x.passes (omega (arith, y.within)))

-- an entry past the last has its end right after it
pub end_past : (ls : List (Option ℕ)) (i : ℕ) → length ls ≤ i → end_of ls i ≡ i + 1
end_past ls i h = let e : length ls - (i + 1) ≡ 0 = omega arith in rw e refl

cases_len : (ls : List (Option ℕ)) (i : ℕ) → (i < length ls) ⊎ (length ls ≤ i)
cases_len ls i = grind arith

pub end_within : (ls : List (Option ℕ)) (i j : ℕ) → i < j → j < end_of ls i → j < length ls
end_within ls i j a b = elim (cases_len ls i) [
  | inl l ↦ omega (arith, (end_is ls i l).within)
  | inr l ↦ absurd (omega (arith, end_past ls i l))
]

pub subtrees_nest : SubtreesNest
subtrees_nest ls i j a b = elim (cases_k (end_of ls j) (end_of ls i)) [ inl l ↦ l | inr l ↦ absurd (nest ls i j a b (end_within ls i j a b) l) ]

ended_heading : (x y : Option ℕ) → is_some x ≡ true → ends x y ≡ true → is_some y ≡ true
ended_heading None y h g = cc
ended_heading (Some a) None h g = cc
ended_heading (Some a) (Some b) h g = refl

ne_true : (b : Bool) → (b ≡ true → ⊥) → b ≡ false
ne_true true h = absurd (h refl)
ne_true false h = refl

not_above : (ls : List (Option ℕ)) (i j : ℕ) → end_of ls i ≤ j → (is_above ls i j) ≡ true → ⊥
not_above ls i j l h = omega (arith, inside_before_end ls i j (above_inside ls i j j h))

pub end_is_not_below : EndIsNotBelow
end_is_not_below ls i h l =
    let e = end_is ls i (past_none ls i h) in
    (ended_heading (level_at ls i) (level_at ls (end_of ls i)) h (e.passes l), ne_true (is_above ls i (end_of ls i)) (not_above ls i (end_of ls i) (omega arith)))

pub ancestors_of_ancestors : AncestorsOfAncestors
ancestors_of_ancestors ls i j k a b =
    let x = above_inside ls i j j a in
    let y = above_inside ls j k k b in
    let within = subtrees_nest ls i j x.after (inside_before_end ls i j x) in
    let before = inside_before_end ls j k y in
    (subtree_is_what_is_below ls i k).1 (omega (arith, x.after, y.after), omega (arith, before, within), y.heading)

pub others_stand_alone : OthersStandAlone
others_stand_alone ls i h = (no_heading_no_parent ls i h, no_heading_end ls i h)
