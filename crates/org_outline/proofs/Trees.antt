-- A tree stands alone: entries before it have no say in it, and no entries have a say in those before them.
use Rattle.std.proofs.Common.{◌≡◌, ◌∙◌, ℕ, zero, suc, ◌+◌, ◌-◌, ◌<◌, ◌≤◌, Bool, true, false, cond, Option, Some, None, List, ◌∷◌, ◌++◌, length, map, is_some, refl, sym, ap, subst, ◌⊎◌, inl, inr, arith}
use Rattle.std.specs.Option.{option_map}
use Rattle.std.proofs.lemmas.Bool.{le-ltb, ltb-false}
use Rattle.std.proofs.lemmas.List.{get_or_append_left, get_or-append-add}
use Rattle.org_outline.specs.Laws.{BeginsTree, IsNearestSmaller, LaterHasNoSay, NoneIsSmaller, TreesStandAlone}
use Rattle.org_outline.specs.Places.{greatest_below}
use Rattle.org_outline.specs.Tree.{level_at, is_smaller, parent, ancestors, up_from}
use Rattle.org_outline.proofs.Chain.{ancestors_step, parent_earlier}
use Rattle.org_outline.proofs.Parents.{parent_is_nearest, smaller_none}

level_before : (xs ys : List (Option ℕ)) (k : ℕ) → k < length xs → level_at (xs ++ ys) k ≡ level_at xs k
level_before xs ys k h = get_or_append_left xs ys None k h

level_behind : (xs ys : List (Option ℕ)) (k : ℕ) → level_at (xs ++ ys) (length xs + k) ≡ level_at ys k
level_behind xs ys k = get_or-append-add xs ys k None

not_itself : (x : Option ℕ) → is_smaller x x ≡ false
not_itself None = refl
not_itself (Some a) = le-ltb a a (omega arith)

-- what isn't smaller than a tree's first heading isn't smaller than an entry that has none smaller before it in the tree
no_smaller : (x first own : Option ℕ) → is_some first ≡ true → is_smaller x first ≡ false → is_smaller first own ≡ false → is_smaller x own ≡ false
no_smaller x first None s h g = smaller_none x
no_smaller None first (Some c) s h g = refl
no_smaller (Some a) None (Some c) s h g = cc
no_smaller (Some a) (Some m) (Some c) s h g = le-ltb a c (omega (arith, ltb-false a m h, ltb-false m c g))

-- tests that are the same find the same
greatest_same : (p q : ℕ → Bool) (n : ℕ) → ((j : ℕ) → j < n → p j ≡ q j) → greatest_below p n ≡ greatest_below q n
greatest_same p q zero f = refl
greatest_same p q (suc n) f = rw (f n (omega arith)) (ap (cond (q n) (Some n)) (greatest_same p q n (λ j h. f j (omega arith))))

module _ (xs ys : List (Option ℕ)) where
  -- none from a place of the tree on is smaller
  none_between : (k a : ℕ) → ((x : ℕ) → a ≤ x → x < k → is_smaller (level_at ys x) (level_at ys k) ≡ false) →
      (x : ℕ) → length xs + a ≤ x → x < length xs + k → is_smaller (level_at (xs ++ ys) x) (level_at (xs ++ ys) (length xs + k)) ≡ false
  none_between k a f x l h =
      let e : length xs + (x - length xs) ≡ x = omega arith in
      subst (λ y. is_smaller (level_at (xs ++ ys) y) (level_at (xs ++ ys) (length xs + k)) ≡ false) e
      (rw (level_behind xs ys (x - length xs), level_behind xs ys k) (f (x - length xs) (omega arith) (omega arith)))

  nearest_behind : (k j : ℕ) → IsNearestSmaller ys k j → IsNearestSmaller (xs ++ ys) (length xs + k) (length xs + j)
  nearest_behind k j n = record {
    earlier = omega (arith, n.earlier);
    smaller = rw (level_behind xs ys j, level_behind xs ys k) n.smaller;
    nearest = λ x a b. none_between k (suc j) (λ y c d. n.nearest y (omega arith) d) x (omega arith) b;
  }

  first_is_not_smaller : (k : ℕ) → NoneIsSmaller ys k → is_smaller (level_at ys 0) (level_at ys k) ≡ false
  first_is_not_smaller zero n = not_itself (level_at ys 0)
  first_is_not_smaller (suc k) n = n 0 (omega arith)

  before_or_behind : (x : ℕ) → (x < length xs) ⊎ (length xs ≤ x)
  before_or_behind x = grind arith

  none_behind : BeginsTree xs ys → (k : ℕ) → NoneIsSmaller ys k → NoneIsSmaller (xs ++ ys) (length xs + k)
  none_behind b k n x h = elim (before_or_behind x) [
    | inl l ↦ rw (level_before xs ys x l, level_behind xs ys k) (no_smaller (level_at xs x) (level_at ys 0) (level_at ys k) b.0 (b.1 x) (first_is_not_smaller k n))
    | inr l ↦ none_between k 0 (λ y c d. n y d) x (omega arith) h
  ]

  parent_behind : BeginsTree xs ys → (k : ℕ) (p : Option ℕ) → parent ys k ≡ p → parent (xs ++ ys) (length xs + k) ≡ option_map (λ j. length xs + j) p
  parent_behind b k None e = (parent_is_nearest (xs ++ ys) (length xs + k)).1.1 (none_behind b k ((parent_is_nearest ys k).1.0 e))
  parent_behind b k (Some j) e = ((parent_is_nearest (xs ++ ys) (length xs + k)).0 (length xs + j)).1 (nearest_behind k j (((parent_is_nearest ys k).0 j).0 e))

  up_behind : BeginsTree xs ys → (k : ℕ) (p : Option ℕ) → parent ys k ≡ p →
      ((j : ℕ) → p ≡ Some j → ancestors (xs ++ ys) (length xs + j) ≡ map (λ i. length xs + i) (ancestors ys j)) →
      up_from (xs ++ ys) (parent (xs ++ ys) (length xs + k)) ≡ map (λ i. length xs + i) (up_from ys p)
  up_behind b k None e f = ap (up_from (xs ++ ys)) (parent_behind b k None e)
  up_behind b k (Some j) e f = ap (up_from (xs ++ ys)) (parent_behind b k (Some j) e) ∙ ap (λ v. (length xs + j) ∷ v) (f j refl)

  ancestors_behind : BeginsTree xs ys → (m k : ℕ) → k < m → ancestors (xs ++ ys) (length xs + k) ≡ map (λ i. length xs + i) (ancestors ys k)
  ancestors_behind b zero k h = absurd (omega arith)
  ancestors_behind b (suc m) k h =
      ancestors_step (xs ++ ys) (length xs + k)
      ∙ up_behind b k (parent ys k) refl (λ j e. ancestors_behind b m j (omega (arith, parent_earlier ys k j e)))
      ∙ sym (ap (map (λ i. length xs + i)) (ancestors_step ys k))

  parent_before : (k : ℕ) → k < length xs → parent (xs ++ ys) k ≡ parent xs k
  parent_before k l =
      greatest_same (λ j. is_smaller (level_at (xs ++ ys) j) (level_at (xs ++ ys) k)) (λ j. is_smaller (level_at xs j) (level_at xs k)) k
      (λ j h. rw (level_before xs ys j (omega arith), level_before xs ys k l) refl)

  up_before : (k : ℕ) (p : Option ℕ) → ((j : ℕ) → p ≡ Some j → ancestors (xs ++ ys) j ≡ ancestors xs j) → up_from (xs ++ ys) p ≡ up_from xs p
  up_before k None f = refl
  up_before k (Some j) f = ap (λ v. j ∷ v) (f j refl)

  ancestors_before : (m k : ℕ) → k < m → k < length xs → ancestors (xs ++ ys) k ≡ ancestors xs k
  ancestors_before zero k h l = absurd (omega arith)
  ancestors_before (suc m) k h l =
      ancestors_step (xs ++ ys) k
      ∙ ap (up_from (xs ++ ys)) (parent_before k l)
      ∙ up_before k (parent xs k) (λ j e. let less = parent_earlier xs k j e in ancestors_before m j (omega arith) (omega arith))
      ∙ sym (ancestors_step xs k)

pub trees_stand_alone : TreesStandAlone
trees_stand_alone xs ys k b = ancestors_behind xs ys b (suc k) k (omega arith)

pub later_has_no_say : LaterHasNoSay
later_has_no_say xs ys k l = ancestors_before xs ys (suc k) k (omega arith) l
