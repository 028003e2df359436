-- Digits of efforts, and bounds.
use Rattle.std.proofs.Common.{◌≡◌, ℕ, zero, suc, ◌+◌, ◌-◌, ◌*◌, ◌^◌, ◌<◌, ◌≤◌, Bool, true, false, cond, List, [], ◌∷◌, length, take, get_or, refl, arith}
use Rattle.std.proofs.Math.Nat.{mul-le-mul_right, pow-le-pow_right}
use Rattle.std.proofs.lemmas.Bool.Decides.{nat_tests}
use Rattle.std.proofs.lemmas.Int.Digits.{digits_value-lt, digits_value_more}
use Rattle.std.proofs.lemmas.Str.{digit_value_digit}
use Rattle.std.proofs.lemmas.Str.Parse.{digit_from_value, digits_value-take-le}
use Rattle.std.specs.Char.{is_ascii_digit, digit_value}
use Rattle.std.specs.Int.{IsInRange}
use Rattle.std.specs.List.{prefix_len}
use Rattle.std.specs.Str.Parse.{AllDigits, digits_value}

-- the most that a number of four digits and a unit make
pub product_below : (n m : ℕ) → n ≤ 9_999 → m ≤ 525_960 → n * m ≤ 5_259_074_040
product_below n m a b = omega (arith, mul-le-mul_right m a)

in_range : (b : ℕ) → is_ascii_digit b ≡ true → IsInRange 48 57 b
in_range b h = grind (arith, nat_tests)

value : (b : ℕ) → is_ascii_digit b ≡ true → digit_value b < 10
value b h = let r = in_range b h in omega (arith, r, digit_value_digit b r)

-- the digits at the front are digits
pub digits_before : (bs : List ℕ) → AllDigits 10 (take (prefix_len is_ascii_digit bs) bs)
digits_before [] = tt
digits_before (b ∷ bs) = by (is_ascii_digit b) refl (digits_before bs)
  where
    by : (t : Bool) → is_ascii_digit b ≡ t → AllDigits 10 (take (prefix_len is_ascii_digit bs) bs) → AllDigits 10 (take (cond t (1 + prefix_len is_ascii_digit bs) 0) (b ∷ bs))
    by true e h = let next : 1 + prefix_len is_ascii_digit bs ≡ suc (prefix_len is_ascii_digit bs) = omega arith in rw next (value b e, h)
    by false e h = tt

-- a digit among digits
digit_at : (ds : List ℕ) (i d : ℕ) → AllDigits 10 ds → i < length ds → digit_value (get_or ds i d) < 10
digit_at [] i d h lt = absurd (omega (arith, lt))
digit_at (x ∷ xs) zero d h lt = h.0
digit_at (x ∷ xs) (suc i) d h lt = digit_at xs i d h.1 (omega (arith, lt))

-- the digit at a place, and the number up to it and with it
pub next_digit : (ds : List ℕ) (i : ℕ) → AllDigits 10 ds → i < length ds →
    IsInRange 48 57 (get_or ds i 0) × (digits_value 10 (take (i + 1) ds) ≡ digits_value 10 (take i ds) * 10 + (get_or ds i 0 - 48))
next_digit ds i h lt =
    let range = digit_from_value (get_or ds i 0) (digit_at ds i 0 h lt) in
    let is : digit_value (get_or ds i 0) ≡ get_or ds i 0 - 48 = omega (arith, digit_value_digit (get_or ds i 0) range) in
    (range, rw is at (digits_value_more 10 ds i lt))

-- the number that at most so many digits write
pub digits_below : (most : ℕ) (ds : List ℕ) → AllDigits 10 ds → length ds ≤ most → digits_value 10 ds < 10 ^ most
digits_below most ds h few = omega (arith, digits_value-lt 10 ds h, pow-le-pow_right {n = 10} (omega arith) few)

-- six digits, or fewer of them, are below a million
pub below_million : (ds : List ℕ) (i : ℕ) → AllDigits 10 ds → length ds ≤ 6 → digits_value 10 (take i ds) < 1_000_000
below_million ds i h few = omega (arith, digits_value-take-le 10 ds i (omega arith), digits_below 6 ds h few)
