-- The way back over earlier entries, parent by parent.
use Rattle.std.proofs.Common.{◌≡◌, ℕ, suc, ◌<◌, ◌≤◌, false, Option, Some, None, List, refl, ◌⊎◌, inl, inr, arith}
use Rattle.std.proofs.lemmas.Bool.{lt-ltb, le-ltb, ltb-false}
use Rattle.org_outline.specs.Laws.{IsNearestSmaller, ParentIsNearest}
use Rattle.org_outline.specs.Places.{behind}
use Rattle.org_outline.specs.Tree.{level_at, is_smaller, parent}
use Rattle.org_outline.proofs.Search.{greatest_none, greatest_some, greatest_skip, greatest_is}

pub smaller_none : (x : Option ℕ) → is_smaller x None ≡ false
smaller_none None = refl
smaller_none (Some a) = refl

pub smaller_weaker : (x : Option ℕ) (a m : ℕ) → m ≤ a → is_smaller x (Some a) ≡ false → is_smaller x (Some m) ≡ false
smaller_weaker None a m l h = refl
smaller_weaker (Some b) a m l h = le-ltb b m (omega (arith, ltb-false b a h))

-- none from b on, and before i, is a heading of a smaller level than i
pub record NoneFrom (ls : List (Option ℕ)) (i b : ℕ) : Type 0 where
  pub within : b ≤ i
  pub none : (k : ℕ) → b ≤ k → k < i → is_smaller (level_at ls k) (level_at ls i) ≡ false

pub none_at_first : (ls : List (Option ℕ)) (i : ℕ) → NoneFrom ls i i
none_at_first ls i = record { within = omega arith; none = λ k a b. absurd (omega arith) }

pub no_parent : (ls : List (Option ℕ)) (i : ℕ) → NoneFrom ls i 0 → parent ls i ≡ None
no_parent ls i r = greatest_skip (λ j. is_smaller (level_at ls j) (level_at ls i)) 0 i r.within r.none

pub no_heading_no_parent : (ls : List (Option ℕ)) (i : ℕ) → level_at ls i ≡ None → parent ls i ≡ None
no_heading_no_parent ls i h = no_parent ls i record { within = omega arith; none = λ k a b. rw h (smaller_none (level_at ls k)) }

pub parent_found : (ls : List (Option ℕ)) (i k a m : ℕ) → NoneFrom ls i (suc k) → level_at ls i ≡ Some m → level_at ls k ≡ Some a → a < m → parent ls i ≡ Some k
parent_found ls i k a m r h g l =
    greatest_is (λ j. is_smaller (level_at ls j) (level_at ls i)) i k
    record { below = omega (arith, r.within); passes = rw (h, g) (lt-ltb a m l); last = r.none }

-- over an entry that is no heading
pub over_no_heading : (ls : List (Option ℕ)) (i k : ℕ) → NoneFrom ls i (suc k) → level_at ls k ≡ None → NoneFrom ls i k
over_no_heading ls i k r g = record { within = omega (arith, r.within); none = λ j a b. grind (arith, r.none, g) }

cases_from : (k x i : ℕ) → x < i → (x < k) ⊎ (x ≡ k) ⊎ (suc k ≤ x)
cases_from k x i h = grind arith

over : (ls : List (Option ℕ)) (i k b a m : ℕ) → NoneFrom ls i (suc k) → level_at ls i ≡ Some m → level_at ls k ≡ Some a → m ≤ a →
    ((x : ℕ) → b ≤ x → x < k → is_smaller (level_at ls x) (level_at ls k) ≡ false) →
    (x : ℕ) → b ≤ x → x < i → is_smaller (level_at ls x) (level_at ls i) ≡ false
over ls i k b a m r h g l f x p q = elim (cases_from k x i q) [
  | inl y ↦ rw h (smaller_weaker (level_at ls x) a m l (rw g at (f x p y)))
  | inr z ↦ elim z [
    | inl e ↦ rw (h, e, g) (le-ltb a m l)
    | inr y ↦ r.none x y q
  ]
]

behind_le : (p : Option ℕ) (k : ℕ) → ((j : ℕ) → p ≡ Some j → j < k) → behind p ≤ k
behind_le None k f = omega arith
behind_le (Some j) k f = omega (arith, f j refl)

-- what stands up to the parent of an entry, with it, is before the entry
pub behind_parent : (ls : List (Option ℕ)) (k : ℕ) → behind (parent ls k) ≤ k
behind_parent ls k = behind_le (parent ls k) k (λ j e. (greatest_some (λ x. is_smaller (level_at ls x) (level_at ls k)) k j e).below)

none_behind : (ls : List (Option ℕ)) (k : ℕ) (p : Option ℕ) → parent ls k ≡ p → (x : ℕ) → behind p ≤ x → x < k → is_smaller (level_at ls x) (level_at ls k) ≡ false
none_behind ls k None e = greatest_none (λ x. is_smaller (level_at ls x) (level_at ls k)) k e
none_behind ls k (Some j) e = λ x a b. (greatest_some (λ x. is_smaller (level_at ls x) (level_at ls k)) k j e).last x (omega arith) b

-- over a heading of no smaller level, to after its parent
pub over_heading : (ls : List (Option ℕ)) (i k a m : ℕ) → NoneFrom ls i (suc k) → level_at ls i ≡ Some m → level_at ls k ≡ Some a → m ≤ a → NoneFrom ls i (behind (parent ls k))
over_heading ls i k a m r h g l =
    record {
      within = omega (arith, r.within, behind_parent ls k);
      none = over ls i k (behind (parent ls k)) a m r h g l (none_behind ls k (parent ls k) refl);
    }

nearest_of : (ls : List (Option ℕ)) (i j : ℕ) → parent ls i ≡ Some j → IsNearestSmaller ls i j
nearest_of ls i j e =
    let g = greatest_some (λ x. is_smaller (level_at ls x) (level_at ls i)) i j e in
    record { earlier = g.below; smaller = g.passes; nearest = g.last }

parent_of_nearest : (ls : List (Option ℕ)) (i j : ℕ) → IsNearestSmaller ls i j → parent ls i ≡ Some j
parent_of_nearest ls i j n = greatest_is (λ x. is_smaller (level_at ls x) (level_at ls i)) i j record { below = n.earlier; passes = n.smaller; last = n.nearest }

pub parent_is_nearest : ParentIsNearest
parent_is_nearest ls i = (
  λ j. (λ e. nearest_of ls i j e, λ n. parent_of_nearest ls i j n),
  (λ e k l. greatest_none (λ x. is_smaller (level_at ls x) (level_at ls i)) i e k (omega arith) l, λ n. no_parent ls i record { within = omega arith; none = λ k a b. n k b }),
)
