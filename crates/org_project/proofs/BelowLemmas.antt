-- Counts over subtrees.
use Rattle.std.proofs.Common.{◌≡◌, ◌∙◌, ℕ, ◌+◌, ◌-◌, ◌<◌, ◌≤◌, Bool, List, [], ◌∷◌, length, refl, sym, ◌⊎◌, inl, inr, arith, ◌==◌}
use Rattle.std.proofs.lemmas.Bool.{eq-eqb, ne_eqb}
use Rattle.org_entry.specs.declared.entry.Entry.{Entry}
use Rattle.org_outline.specs.Levels.{levels}
use Rattle.org_outline.specs.Tree.{end_of}
use Rattle.org_sum.proofs.ChildLemmas.{sums_are_own_and_children}
use Rattle.org_sum.proofs.Ranges.{difference, end_in, own_total, sum_more, sum_up}
use Rattle.org_sum.specs.Sums.{children_sum, own_at, subtree_sum, sum_below, total}
use Rattle.org_project.specs.Below.{one}

-- all entries are as many as there are
pub total_one : (es : List Entry) → total one es ≡ length es
total_one [] = omega arith
total_one (e ∷ es) = omega (arith, total_one es)

-- what is counted before a place is no more than the places
pub at_most : (es : List Entry) (cs : List Bool) (n : ℕ) → sum_below (own_at one es cs) n ≤ length es
at_most es cs n = omega (arith, own_total one es cs n, total_one es)

-- what is below is counted between what follows a heading and its subtree's end
pub between : (es : List Entry) (cs : List Bool) (i e a b : ℕ) → i < length es → e ≡ end_of (levels es) i →
    a ≡ sum_below (own_at one es cs) e → b ≡ sum_below (own_at one es cs) (i + 1) → a - b ≡ children_sum one es cs i
between es cs i e a b h p x y =
    let f : ℕ → ℕ = own_at one es cs in
    let d = difference one es cs i e a (sum_below f i) h p x (refl) in
    let s = sums_are_own_and_children one es cs i h in
    let m = sum_more f i in
    omega (arith, d, s, m, y)

cases_zero : (n : ℕ) → (n ≡ 0) ⊎ (0 < n)
cases_zero n = grind arith

positive : (a b n : ℕ) → a - b ≡ n → 0 < n → a ≡ b → ⊥
positive a b n d p e = grind arith

not_zero : (n : ℕ) → 0 < n → n ≡ 0 → ⊥
not_zero n p e = grind arith

-- two counts are equal where none is between
same_test : (a b n : ℕ) → b ≤ a → a - b ≡ n → (a == b) ≡ (n == 0)
same_test a b n h d = elim (cases_zero n) [
  | inl z ↦ eq-eqb a b (omega (arith, h, d, z)) ∙ sym (eq-eqb n 0 z)
  | inr p ↦ ne_eqb a b (λ e. positive a b n d p e) ∙ sym (ne_eqb n 0 (λ e. not_zero n p e))
]

-- nothing of a subtree is counted where as many are counted up to its end as before it
pub none_in : (es : List Entry) (cs : List Bool) (i e a b : ℕ) → i < length es → e ≡ end_of (levels es) i →
    a ≡ sum_below (own_at one es cs) e → b ≡ sum_below (own_at one es cs) i → (a == b) ≡ (subtree_sum one es cs i == 0)
none_in es cs i e a b h p x y =
    let f : ℕ → ℕ = own_at one es cs in
    let d = difference one es cs i e a b h p x y in
    let n = end_in es i h in
    let u = sum_up f i e (omega (arith, n.0, p)) in
    let le : b ≤ a = omega (arith, u, x, y) in
    same_test a b (subtree_sum one es cs i) le d
