-- Where lines begin.
use Rattle.std.proofs.Common.{◌≡◌, ◌+◌, ◌-◌, ◌<◌, ◌≤◌, ℕ, zero, suc, true, false, List, [], ◌∷◌, length, get_or, ap, arith, refl, subst, sym}
use Rattle.std.specs.Prelude.{nat_le}
use Rattle.std.specs.List.Sorted.{IsPartitionedBy}
use Rattle.std.proofs.lemmas.Bool.Decides.{nat_tests}
use Rattle.org_class.proofs.SpanLemmas.{whole_text}
use Rattle.org_client.specs.LinePlaces.{AreInOrder, AreUpTo, IsBeforeAll, StandsAt, lines_to}
use Rattle.org_lines.specs.Cuts.{lines, lines_in, starts}

sooner : (a b : ℕ) (xs : List ℕ) → a ≤ b → AreInOrder b xs → AreInOrder a xs
sooner a b [] le order = tt
sooner a b (x ∷ xs) le order = (omega (arith, le, order.0), order.1)

starts_in_order : (at : ℕ) (ls : List (List ℕ)) → AreInOrder at (starts at ls)
starts_in_order at [] = tt
starts_in_order at (l ∷ ls) = (omega arith, sooner at (at + length l) (starts (at + length l) ls) (omega arith) (starts_in_order (at + length l) ls))

pub are_in_order : (xs : List ℕ) (at : ℕ) (ls : List (List ℕ)) → xs ≡ starts at ls → AreInOrder at xs
are_in_order xs at ls are = subst (AreInOrder at) (sym are) (starts_in_order at ls)

pub whole_lines : (text : List ℕ) (n : ℕ) → n ≡ length text → lines_in text (record { at = 0; len = n }) ≡ lines text
whole_lines text n is = ap lines (whole_text text n is)

pub le_true : (a b : ℕ) → a ≤ b → nat_le a b ≡ true
le_true a b h = grind (arith, nat_tests)

pub le_from : (a b : ℕ) → nat_le a b ≡ true → a ≤ b
le_from a b h = grind (arith, nat_tests)

gt_false : (a b : ℕ) → b < a → nat_le a b ≡ false
gt_false a b h = grind (arith, nat_tests)

pub gt_from : (a b : ℕ) → nat_le a b ≡ false → b < a
gt_from a b h = grind (arith, nat_tests)

from_first : (at : ℕ) (xs : List ℕ) (k d : ℕ) → AreInOrder at xs → k < length xs → at ≤ get_or xs k d
from_first at [] k d order lt = absurd (omega (arith, lt))
from_first at (x ∷ xs) zero d order lt = order.0
from_first at (x ∷ xs) (suc k) d order lt = omega (arith, order.0, from_first x xs k d order.1 (omega (arith, lt)))

pair_in_order : (at : ℕ) (xs : List ℕ) (i j d : ℕ) → AreInOrder at xs → i ≤ j → j < length xs → get_or xs i d ≤ get_or xs j d
pair_in_order at [] i j d order le lt = absurd (omega (arith, lt))
pair_in_order at (x ∷ xs) zero zero d order le lt = omega arith
pair_in_order at (x ∷ xs) zero (suc j) d order le lt = from_first x xs j d order.1 (omega (arith, lt))
pair_in_order at (x ∷ xs) (suc i) zero d order le lt = absurd (omega (arith, le))
pair_in_order at (x ∷ xs) (suc i) (suc j) d order le lt = pair_in_order x xs i j d order.1 (omega (arith, le)) (omega (arith, lt))

pub parted : (xs : List ℕ) (at : ℕ) → AreInOrder 0 xs → IsPartitionedBy (λ (x : ℕ). nat_le x at) xs
parted xs at order i j d le lt h =
    le_true _ at (omega (arith, pair_in_order 0 xs i j d order le lt, le_from (get_or xs j d) at h))

-- a place inside a list has one value, whichever stands for places outside
same : (xs : List ℕ) (i d e : ℕ) → i < length xs → get_or xs i d ≡ get_or xs i e
same [] i d e lt = absurd (omega (arith, lt))
same (x ∷ xs) zero d e lt = refl
same (x ∷ xs) (suc i) d e lt = same xs i d e (omega (arith, lt))

pub last_past : (xs : List ℕ) (at count start : ℕ) → AreUpTo xs at count → 1 ≤ count → start ≡ get_or xs (count - 1) start → start ≤ at
last_past xs at count start are some is = omega (arith, is, are.earlier (count - 1) start (omega (arith, some)))

pub stands : (xs : List ℕ) (at count start column : ℕ) → AreUpTo xs at count → 1 ≤ count → start ≡ get_or xs (count - 1) start → start + column ≡ at + 1 →
    StandsAt xs at (record { line = count; column = column })
stands xs at count start column are some is there =
    let inside : count - 1 < length xs = omega (arith, some, are.within) in
    record {
      counted = some;
      within = are.within;
      column = λ d. omega (arith, same xs (count - 1) d start inside, is, there);
      past = λ d. are.earlier (count - 1) d (omega (arith, some));
      before_next = λ d lt. are.later count d (omega arith) lt;
    }

pub before_all : (xs : List ℕ) (at count : ℕ) → AreUpTo xs at count → count ≡ 0 → IsBeforeAll xs at
before_all xs at count are none i d lt = are.later i d (omega (arith, none)) lt

-- how many lines begin at a byte or before it, as a value
pub counted : (xs : List ℕ) (at count : ℕ) → AreUpTo xs at count → count ≡ lines_to at xs
counted [] at count up = omega (arith, up.within)
counted (x ∷ xs) at zero up =
    let past : at < x = up.later 0 0 (omega arith) (omega arith) in
    rw (gt_false x at past) refl
counted (x ∷ xs) at (suc n) up =
    let le : x ≤ at = up.earlier 0 0 (omega arith) in
    let rest : AreUpTo xs at n = record {
      within = omega (arith, up.within);
      earlier = λ i d lt. up.earlier (suc i) d (omega (arith, lt));
      later = λ i d le lt. up.later (suc i) d (omega (arith, le)) (omega (arith, lt));
    } in
    rw (le_true x at le) (omega (arith, counted xs at n rest))
