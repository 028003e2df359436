-- A heading's sum, by its children.
use Rattle.std.proofs.Common.{◌≡◌, ◌∙◌, ℕ, zero, suc, ◌+◌, ◌<◌, Bool, true, false, ◌||◌, ◌==◌, if◌then◌else◌, Option, None, Some, List, length, refl, ap, sym, arith, ◌⊎◌, inl, inr}
use Rattle.std.specs.List.{list_any}
use Rattle.std.proofs.lemmas.Bool.{cases_Bool, eq-eqb, eqb-true, false_from_ne_true, ne_eqb, true≢false}
use Rattle.org_outline.proofs.Below.{ancestors_fall}
use Rattle.org_outline.proofs.Chain.{ancestors_step, parent_earlier}
use Rattle.org_outline.specs.Laws.{is_above}
use Rattle.org_outline.specs.Levels.{levels}
use Rattle.org_outline.specs.Tree.{parent, up_from}
use Rattle.org_sum.specs.Laws.{SumsAreOwnAndChildren}
use Rattle.org_sum.specs.Sums.{is_parent, own_at, sum_below}

-- sums of two things, of equal ones, of nothing and of one
sum_both : (f g : ℕ → ℕ) (n : ℕ) → sum_below (λ j. f j + g j) n ≡ sum_below f n + sum_below g n
sum_both f g zero = refl
sum_both f g (suc n) = omega (arith, sum_both f g n)

sum_same : (f g : ℕ → ℕ) (n : ℕ) → ((j : ℕ) → f j ≡ g j) → sum_below f n ≡ sum_below g n
sum_same f g zero h = refl
sum_same f g (suc n) h = omega (arith, sum_same f g n h, h n)

sum_none : (f : ℕ → ℕ) (n : ℕ) → ((j : ℕ) → j < n → f j ≡ 0) → sum_below f n ≡ 0
sum_none f zero h = refl
sum_none f (suc n) h = omega (arith, sum_none f n (λ j l. h j (omega (arith, l))), h n (omega arith))

cases_last : (k n : ℕ) → k < suc n → (k < n) ⊎ (k ≡ n)
cases_last k n h = grind arith

sum_one : (f : ℕ → ℕ) (k x n : ℕ) → k < n → f k ≡ x → ((j : ℕ) → (j ≡ k → ⊥) → f j ≡ 0) → sum_below f n ≡ x
sum_one f k x zero h is other = absurd (omega (arith, h))
sum_one f k x (suc n) h is other = by (λ l. sum_one f k x n l is other) (cases_last k n h)
  where
    by : (k < n → sum_below f n ≡ x) → (k < n) ⊎ (k ≡ n) → sum_below f n + f n ≡ x
    by rest (inl l) = omega (arith, rest l, other n (λ e. omega (arith, e, l)))
    by rest (inr e) = omega (arith, sum_none f n (λ j l. other j (λ d. omega (arith, d, e, l))), is, ap f e)

sum_turned : (h : ℕ → ℕ → ℕ) (m n : ℕ) → sum_below (λ j. sum_below (h j) n) m ≡ sum_below (λ k. sum_below (λ j. h j k) m) n
sum_turned h zero n = sym (sum_none (λ k. 0) n (λ j l. refl))
sum_turned h (suc m) n = omega (arith, sum_turned h m n, sum_both (λ k. sum_below (λ j. h j k) m) (h m) n)

sum_if : (b : Bool) (g : ℕ → ℕ) (n : ℕ) → (if b then sum_below g n else 0) ≡ sum_below (λ k. if b then g k else 0) n
sum_if true g n = refl
sum_if false g n = sym (sum_none (λ k. 0) n (λ j l. refl))

-- what an entry counts for the child j of i below which it stands
abbrev share : List (Option ℕ) → ℕ → ℕ → ℕ → ℕ → ℕ
share ls i x k j = if is_parent (parent ls j) i then (if (k == j) || is_above ls j k then x else 0) else 0

both_none : (a : Bool) (x : ℕ) → (if a then (if false then x else 0) else 0) ≡ 0
both_none true x = refl
both_none false x = refl

above_step : (ls : List (Option ℕ)) (j k : ℕ) → is_above ls j k ≡ list_any (λ q. q == j) (up_from ls (parent ls k))
above_step ls j k = ap (list_any (λ q. q == j)) (ancestors_step ls k)

or_none : (a b : Bool) → a ≡ false → b ≡ false → (a || b) ≡ false
or_none a b h g = rw (h, g) refl

-- an entry that has no parent
no_share : (ls : List (Option ℕ)) (i x k : ℕ) → parent ls k ≡ None → (j : ℕ) → share ls i x k j ≡ 0
no_share ls i x k none j = by (cases_Bool (k == j))
  where
    not_above : is_above ls j k ≡ false
    not_above = above_step ls j k ∙ ap (λ p. list_any (λ q. q == j) (up_from ls p)) none

    by : ((k == j) ≡ true) ⊎ ((k == j) ≡ false) → share ls i x k j ≡ 0
    by (inl e) =
        let same : k ≡ j = eqb-true k j e in
        let not_child : is_parent (parent ls j) i ≡ false = ap (λ n. is_parent (parent ls n) i) (sym same) ∙ ap (λ p. is_parent p i) none in
        ap (λ b. if b then (if (k == j) || is_above ls j k then x else 0) else 0) not_child
    by (inr e) = ap (λ b. if is_parent (parent ls j) i then (if b then x else 0) else 0) (or_none (k == j) (is_above ls j k) e not_above) ∙ both_none (is_parent (parent ls j) i) x

-- a child of i
own_share : (ls : List (Option ℕ)) (i x k : ℕ) → parent ls k ≡ Some i → share ls i x k k ≡ x
own_share ls i x k is =
    ap (λ p. if is_parent p i then (if (k == k) || is_above ls k k then x else 0) else 0) is
    ∙ ap (λ b. if b then (if (k == k) || is_above ls k k then x else 0) else 0) (eq-eqb i i refl)
    ∙ ap (λ b. if b || is_above ls k k then x else 0) (eq-eqb k k refl)

child_parent : (p : Option ℕ) (i : ℕ) → is_parent p i ≡ true → p ≡ Some i
child_parent None i h = absurd cc
child_parent (Some q) i h = ap Some (eqb-true q i h)

other_share : (ls : List (Option ℕ)) (i x k : ℕ) → parent ls k ≡ Some i → (j : ℕ) → (j ≡ k → ⊥) → share ls i x k j ≡ 0
other_share ls i x k is j other = by (cases_Bool (is_parent (parent ls j) i))
  where
    not_same : (k == j) ≡ false
    not_same = ne_eqb k j (λ e. other (sym e))

    above : is_above ls j k ≡ ((i == j) || is_above ls j i)
    above = above_step ls j k ∙ ap (λ p. list_any (λ q. q == j) (up_from ls p)) is

    by : (is_parent (parent ls j) i ≡ true) ⊎ (is_parent (parent ls j) i ≡ false) → share ls i x k j ≡ 0
    by (inl e) =
        let later : i < j = parent_earlier ls j i (child_parent (parent ls j) i e) in
        let not_i : (i == j) ≡ false = ne_eqb i j (λ d. omega (arith, d, later)) in
        let not_above : is_above ls j i ≡ false = false_from_ne_true (is_above ls j i) (λ d. let fall = ancestors_fall ls j i d in omega (arith, fall.0, later)) in
        ap (λ b. if is_parent (parent ls j) i then (if b then x else 0) else 0) (or_none (k == j) (is_above ls j k) not_same (above ∙ or_none (i == j) (is_above ls j i) not_i not_above))
        ∙ both_none (is_parent (parent ls j) i) x
    by (inr e) = ap (λ b. if b then (if (k == j) || is_above ls j k then x else 0) else 0) e

-- an entry whose parent is another has the share of its parent
same_share : (ls : List (Option ℕ)) (i x k p : ℕ) → parent ls k ≡ Some p → (p == i) ≡ false → (j : ℕ) → share ls i x k j ≡ share ls i x p j
same_share ls i x k p is other j = by (cases_Bool (is_parent (parent ls j) i))
  where
    above : is_above ls j k ≡ ((p == j) || is_above ls j p)
    above = above_step ls j k ∙ ap (λ q. list_any (λ r. r == j) (up_from ls q)) is

    by : (is_parent (parent ls j) i ≡ true) ⊎ (is_parent (parent ls j) i ≡ false) → share ls i x k j ≡ share ls i x p j
    by (inl e) =
        let not_same : (k == j) ≡ false = ne_eqb k j (λ d.
        let b : is_parent (Some p) i ≡ true = ap (λ q. is_parent q i) (sym is) ∙ (ap (λ n. is_parent (parent ls n) i) d ∙ e) in
        true≢false (sym b ∙ other)) in
        ap (λ b. if is_parent (parent ls j) i then (if b || is_above ls j k then x else 0) else 0) not_same
        ∙ ap (λ b. if is_parent (parent ls j) i then (if b then x else 0) else 0) above
    by (inr e) = ap (λ b. if b then (if (k == j) || is_above ls j k then x else 0) else 0) e ∙ sym (ap (λ b. if b then (if (p == j) || is_above ls j p then x else 0) else 0) e)

-- an entry below i stands below one of its children, and below one only
shares : (ls : List (Option ℕ)) (i x n m k : ℕ) → k < m → k < n → sum_below (share ls i x k) n ≡ (if is_above ls i k then x else 0)
shares ls i x n zero k h l = absurd (omega (arith, h))
shares ls i x n (suc m) k h l = by (λ p d e. shares ls i x n m p d e) (parent ls k) refl
  where
    Rest : Type 0
    Rest = (p : ℕ) → p < m → p < n → sum_below (share ls i x p) n ≡ (if is_above ls i p then x else 0)

    above : is_above ls i k ≡ list_any (λ q. q == i) (up_from ls (parent ls k))
    above = above_step ls i k

    of_parent : Rest → (p : ℕ) → parent ls k ≡ Some p → ((p == i) ≡ true) ⊎ ((p == i) ≡ false) → sum_below (share ls i x k) n ≡ (if is_above ls i k then x else 0)
    of_parent rest p is (inl e) =
        let child : parent ls k ≡ Some i = is ∙ ap Some (eqb-true p i e) in
        let yes : is_above ls i k ≡ true = above ∙ (ap (λ q. list_any (λ r. r == i) (up_from ls q)) is ∙ ap (λ b. b || is_above ls i p) e) in
        sum_one (share ls i x k) k x n l (own_share ls i x k child) (other_share ls i x k child) ∙ sym (ap (λ b. if b then x else 0) yes)
    of_parent rest p is (inr e) =
        let same : is_above ls i k ≡ is_above ls i p = above ∙ (ap (λ q. list_any (λ r. r == i) (up_from ls q)) is ∙ ap (λ b. b || is_above ls i p) e) in
        let earlier = parent_earlier ls k p is in
        sum_same (share ls i x k) (share ls i x p) n (same_share ls i x k p is e)
        ∙ (rest p (omega (arith, earlier, h)) (omega (arith, earlier, l)) ∙ sym (ap (λ b. if b then x else 0) same))

    by : Rest → (p : Option ℕ) → parent ls k ≡ p → sum_below (share ls i x k) n ≡ (if is_above ls i k then x else 0)
    by rest None is =
        let no : is_above ls i k ≡ false = above ∙ ap (λ q. list_any (λ r. r == i) (up_from ls q)) is in
        sum_none (share ls i x k) n (λ j _. no_share ls i x k is j) ∙ sym (ap (λ b. if b then x else 0) no)
    by rest (Some p) is = of_parent rest p is (cases_Bool (p == i))

-- up to a place, for what the children have
children : (ls : List (Option ℕ)) (w : ℕ → ℕ) (i n : ℕ) →
    sum_below (λ j. if is_parent (parent ls j) i then sum_below (λ k. if (k == j) || is_above ls j k then w k else 0) n else 0) n
    ≡ sum_below (λ k. if is_above ls i k then w k else 0) n
children ls w i n =
    sum_same _ (λ j. sum_below (λ k. share ls i (w k) k j) n) n (λ j. sum_if (is_parent (parent ls j) i) (λ k. if (k == j) || is_above ls j k then w k else 0) n)
    ∙ (sum_turned (λ j k. share ls i (w k) k j) n n
    ∙ sum_within (λ k. sum_below (λ j. share ls i (w k) k j) n) (λ k. if is_above ls i k then w k else 0) n (λ k l. shares ls i (w k) n (suc k) k (omega arith) l))
  where
    sum_within : (f g : ℕ → ℕ) (m : ℕ) → ((j : ℕ) → j < m → f j ≡ g j) → sum_below f m ≡ sum_below g m
    sum_within f g zero h = refl
    sum_within f g (suc m) h = omega (arith, sum_within f g m (λ j l. h j (omega (arith, l))), h m (omega arith))

-- what stands in a subtree is the heading, or stands below it
split : (a b : Bool) (x : ℕ) → (a ≡ true → b ≡ false) → (if a || b then x else 0) ≡ (if a then x else 0) + (if b then x else 0)
split true b x h = rw (h refl) (omega arith)
split false b x h = omega arith

pub sums_are_own_and_children : SumsAreOwnAndChildren
sums_are_own_and_children f es counted i within =
    let ls = levels es in
    let w = own_at f es counted in
    let n = length es in
    let not_own : (j : ℕ) → (j == i) ≡ true → is_above ls i j ≡ false = λ j e. false_from_ne_true (is_above ls i j) (λ d. let fall = ancestors_fall ls i j d in omega (arith, fall.0, eqb-true j i e)) in
    let own : sum_below (λ j. if j == i then w j else 0) n ≡ w i =
    sum_one (λ j. if j == i then w j else 0) i (w i) n within (ap (λ b. if b then w i else 0) (eq-eqb i i refl)) (λ j other. ap (λ b. if b then w j else 0) (ne_eqb j i other)) in
    sum_same (λ j. if (j == i) || is_above ls i j then w j else 0) (λ j. (if j == i then w j else 0) + (if is_above ls i j then w j else 0)) n (λ j. split (j == i) (is_above ls i j) (w j) (not_own j))
    ∙ (sum_both (λ j. if j == i then w j else 0) (λ j. if is_above ls i j then w j else 0) n
    ∙ omega (arith, own, children ls w i n))
