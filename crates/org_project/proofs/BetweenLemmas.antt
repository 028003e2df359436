-- Open headings between two places.
use Rattle.std.proofs.Common.{◌≡◌, ℕ, zero, suc, ◌+◌, ◌<◌, ◌≤◌, Bool, true, false, List, refl, ◌⊎◌, inl, inr, arith}
use Rattle.std.proofs.lemmas.Bool.{le-ltb, lt-ltb}
use Rattle.org_entry.specs.declared.entry.Entry.{Entry}
use Rattle.org_sum.proofs.Ranges.{sum_up}
use Rattle.org_sum.specs.Sums.{own_at, sum_below}
use Rattle.org_project.specs.Below.{one}
use Rattle.org_project.specs.Laws.{NoneIsBetween, OneIsBetween}

cases_suc : (a n : ℕ) → a ≤ suc n → (a ≤ n) ⊎ (a ≡ suc n)
cases_suc a n h = grind arith

same_step : (f : ℕ → ℕ) (a n : ℕ) → a ≤ suc n → (a ≤ n → sum_below f n ≡ sum_below f a) → (a ≤ n → f n ≡ 0) → sum_below f (suc n) ≡ sum_below f a
same_step f a n h r z = elim (cases_suc a n h) [ inl l ↦ omega (arith, r l, z l) | inr e ↦ rw e refl ]

same : (f : ℕ → ℕ) (a n : ℕ) → a ≤ n → ((j : ℕ) → a ≤ j → j < n → f j ≡ 0) → sum_below f n ≡ sum_below f a
same f a zero h z = let e : a ≡ 0 = omega arith in rw e refl
same f a (suc n) h z = same_step f a n h (λ l. same f a n l (λ j x y. z j x (omega arith))) (λ l. z n l (omega arith))

pub none_is_between : NoneIsBetween
none_is_between es undone from to h z =
    let s = same (own_at one es undone) from to h z in
    le-ltb (sum_below (own_at one es undone) from) (sum_below (own_at one es undone) to) (omega (arith, s))

pub one_is_between : OneIsBetween
one_is_between es undone from j to h k o =
    let f : ℕ → ℕ = own_at one es undone in
    let a = sum_up f from j h in
    let b = sum_up f (suc j) to (omega arith) in
    let m : sum_below f (suc j) ≡ sum_below f j + f j = refl in
    lt-ltb (sum_below f from) (sum_below f to) (omega (arith, a, b, m, o))
