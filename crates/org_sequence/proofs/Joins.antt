-- What lists that are put side by side add up to.
use Rattle.std.proofs.Common.{◌≡◌, ℕ, Bool, ◌+◌, ◌^◌, ◌<◌, ◌≤◌, List, [], ◌∷◌, ◌++◌, length, take, get_or, length-append, arith, ap, sym, subst, ◌∙◌, append_assoc, refl}
use Rattle.std.specs.List.{sum_by, count_by}
use Rattle.std.proofs.lemmas.List.{take_more}
use Rattle.std.proofs.Math.Seq.{take-append-add}
use Rattle.std.proofs.lemmas.List.Sums.{sum_by-append, sum_by-take-le, sum_by_more}
use Rattle.org_sequence.specs.declared.sums.Sums.{Sums}
use Rattle.org_sequence.specs.Sums.{AreSums, sums_together}

pub joined_length : {T : Type 0} (xs ys : List T) → length (xs ++ ys) ≡ length xs + length ys
joined_length xs ys = length-append xs ys

pub joined_size : {T : Type 0} (f : T → ℕ) (xs ys : List T) → sum_by f (xs ++ ys) ≡ sum_by f xs + sum_by f ys
joined_size f xs ys = sum_by-append f xs ys

joined_marks : {T : Type 0} (p : T → Bool) (xs ys : List T) → count_by p (xs ++ ys) ≡ count_by p xs + count_by p ys
joined_marks p xs ys = sum_by-append _ xs ys

-- the size of the items up to one and with it
pub size_more : {T : Type 0} (f : T → ℕ) (xs : List T) (i : ℕ) (x : T) → i < length xs → x ≡ get_or xs i x → (sum_by f (take (i + 1) xs) ≡ sum_by f (take i xs) + f x) × (sum_by f (take i xs) + f x ≤ sum_by f xs)
size_more f xs i x lt is =
    let e : sum_by f (take (i + 1) xs) ≡ sum_by f (take i xs) + f x = sum_by_more f xs i x lt ∙ ap (λ y. sum_by f (take i xs) + f y) (sym is) in
    (e, omega (arith, e, sum_by-take-le f xs (i + 1)))

-- one item more of a list that is copied
pub copied_more : {T : Type 0} (ys xs : List T) (i : ℕ) (x : T) → i < length xs → x ≡ get_or xs i x → (ys ++ take i xs) ++ x ∷ [] ≡ ys ++ take (i + 1) xs
copied_more ys xs i x lt is = append_assoc ys (take i xs) (x ∷ []) ∙ ap (λ zs. ys ++ zs) (ap (λ y. take i xs ++ y ∷ []) is ∙ sym (take_more xs i x lt))

-- what two lists side by side add up to
pub joined_sums : {T : Type 0} (f g : T → ℕ) (p q : T → Bool) (xs ys : List T) (a b : Sums) → AreSums f g p q xs a → AreSums f g p q ys b → a.size + b.size < 2 ^ 32 → AreSums f g p q (xs ++ ys) (sums_together a b)
joined_sums f g p q xs ys a b m n fits = record {
  count_is = omega (arith, m.count_is, n.count_is, length-append xs ys);
  size_is = omega (arith, m.size_is, n.size_is, sum_by-append f xs ys);
  lines_is = omega (arith, m.lines_is, n.lines_is, sum_by-append g xs ys);
  pending_is = omega (arith, m.pending_is, n.pending_is, joined_marks p xs ys);
  flags_is = omega (arith, m.flags_is, n.flags_is, joined_marks q xs ys);
  covered = record {
    fits = fits;
    count = omega (arith, m.covered.count, n.covered.count);
    lines = omega (arith, m.covered.lines, n.covered.lines);
    pending = omega (arith, m.covered.pending, n.covered.pending);
    flags = omega (arith, m.covered.flags, n.covered.flags);
  };
}

-- and one item more
pub sums_more : {T : Type 0} (f g : T → ℕ) (p q : T → Bool) (xs : List T) (i : ℕ) (x : T) (a b : Sums) → i < length xs → x ≡ get_or xs i x → AreSums f g p q (take i xs) a → AreSums f g p q (x ∷ []) b → a.size + b.size < 2 ^ 32 → AreSums f g p q (take (i + 1) xs) (sums_together a b)
sums_more f g p q xs i x a b lt is m n fits =
    let e : take i xs ++ x ∷ [] ≡ take (i + 1) xs = ap (λ y. take i xs ++ y ∷ []) is ∙ sym (take_more xs i x lt) in
    subst (λ zs. AreSums f g p q zs (sums_together a b)) e (joined_sums f g p q (take i xs) (x ∷ []) a b m n fits)

-- what the items before a place add up to, where the place lies after all of the left side
pub sums_behind : {T : Type 0} (f g : T → ℕ) (p q : T → Bool) (xs ls rs vs bs : List T) (at k n : ℕ) (a b : Sums) → xs ≡ ls ++ rs → vs ≡ ls → bs ≡ rs → n ≡ length ls → at ≡ n + k → AreSums f g p q vs a → AreSums f g p q (take k bs) b → sum_by f xs < 2 ^ 32 → (a.size + b.size < 2 ^ 32) × AreSums f g p q (take at xs) (sums_together a b)
sums_behind f g p q xs ls rs vs bs at k n a b is same_left same_right len e m r fits =
    let left : AreSums f g p q ls a = subst (λ ys. AreSums f g p q ys a) same_left m in
    let right : AreSums f g p q (take k rs) b = subst (λ ys. AreSums f g p q (take k ys) b) same_right r in
    let room : a.size + b.size < 2 ^ 32 = omega (arith, left.size_is, right.size_is, ap (sum_by f) is, sum_by-append f ls rs, sum_by-take-le f rs k) in
    let t : ls ++ take k rs ≡ take at xs = rw (is, e, len, take-append-add ls rs k) refl in
    (room, subst (λ zs. AreSums f g p q zs (sums_together a b)) t (joined_sums f g p q ls (take k rs) a b left right room))
