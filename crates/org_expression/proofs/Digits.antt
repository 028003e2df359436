-- Digits of numbers.
use Rattle.std.specs.Char.{is_ascii_digit}
use Rattle.std.proofs.Common.{if◌then◌else◌, ◌≡◌, ℕ, suc, ◌+◌, ◌-◌, ◌*◌, ◌^◌, ◌≤◌, Bool, true, false, ◌==◌, ◌||◌, nat_lt, List, [], ◌∷◌, length, take, arith, refl, ap, sym, subst}
use Rattle.std.specs.List.{list_all}
use Rattle.std.proofs.lemmas.Bool.Decides.{nat_tests}
use Rattle.std.proofs.Math.Nat.{pow-le-pow_right, le-mul_of_pos_right, one-le-pow, pow-succ', mul-le-mul_right, mul_assoc, le_trans}
use Rattle.org_expression.specs.Decimal.{front_digits, front_value, behind, read_on, read_decimals, place, number}

-- the digits at the front, as the code cuts them off
pub front_is : (bs : List ℕ) → take (length (front_digits bs)) bs ≡ front_digits bs
front_is [] = refl
front_is (b ∷ bs) = elim (is_ascii_digit b) as (λ t. take (length (if t then b ∷ front_digits bs else [])) (b ∷ bs) ≡ (if t then b ∷ front_digits bs else [])) [ true ↦ ap (λ q. b ∷ q) (front_is bs) | false ↦ refl ]

all_by : (b : ℕ) (bs : List ℕ) (t : Bool) → is_ascii_digit b ≡ t → list_all is_ascii_digit (front_digits bs) ≡ true → list_all is_ascii_digit (if t then b ∷ front_digits bs else []) ≡ true
all_by b bs true e h = rw (e, h) refl
all_by b bs false e h = refl

pub front_all : (bs : List ℕ) → list_all is_ascii_digit (front_digits bs) ≡ true
front_all [] = refl
front_all (b ∷ bs) = all_by b bs (is_ascii_digit b) refl (front_all bs)

-- one digit more stays within the bound
more : (n d p m : ℕ) → d ≤ 9 → (n + 1) * (10 * p) ≤ m → (10 * n + d + 1) * p ≤ m
more n d p m small bound =
    let low : (10 * n + d + 1) * p ≤ ((n + 1) * 10) * p = mul-le-mul_right p (omega (arith, small)) in
    le_trans low (subst (λ q. q ≤ m) (sym (mul_assoc (n + 1) 10 p)) bound)

pub more_fits : (n d k j m : ℕ) → d ≤ 9 → j ≡ suc k → (n + 1) * 10 ^ j ≤ m → (10 * n + d + 1) * 10 ^ k ≤ m
more_fits n d k j m small is bound = more n d (10 ^ k) m small (rw (is, pow-succ') at bound)

pub now_fits : (n k m : ℕ) → (n + 1) * 10 ^ k ≤ m → n + 1 ≤ m
now_fits n k m bound = le_trans (le-mul_of_pos_right (n + 1) (one-le-pow k 10 (omega arith))) bound

pub room : (k : ℕ) → k ≤ 18 → 1 * 10 ^ k ≤ 10 ^ 18
room k h = let e : 10 ^ k ≤ 10 ^ 18 = pow-le-pow_right (omega arith) h in omega (arith, e)

digit_small : (b : ℕ) → is_ascii_digit b ≡ true → b - 48 ≤ 9
digit_small b h = grind (arith, nat_tests)

first_digit : (b : ℕ) (bs : List ℕ) → list_all is_ascii_digit (b ∷ bs) ≡ true → is_ascii_digit b ≡ true
first_digit b bs h = grind arith

pub whole_step : (n b : ℕ) (bs rest : List ℕ) (r m : ℕ) → bs ≡ b ∷ rest → list_all is_ascii_digit bs ≡ true → (n + 1) * 10 ^ length bs ≤ m → read_on n bs ≡ r →
    (list_all is_ascii_digit rest ≡ true) × ((10 * n + (b - 48) + 1) * 10 ^ length rest ≤ m) × (read_on (10 * n + (b - 48)) rest ≡ r)
whole_step n b bs rest r m is digits bound told =
    let here = rw is at digits in
    (grind arith, more_fits n (b - 48) (length rest) (length bs) m (digit_small b (first_digit b rest here)) (ap length is) bound, rw is at told)

pub decimal_step : (n k j : ℕ) (bs : List ℕ) (r m : ℕ) → j ≡ suc k → front_value bs ≤ 9 → (n + 1) * 10 ^ j ≤ m → read_decimals n j bs ≡ r →
    ((10 * n + front_value bs + 1) * 10 ^ k ≤ m) × (read_decimals (10 * n + front_value bs) k (behind bs) ≡ r)
unfolding read_decimals
decimal_step n k j bs r m is small bound told = (more_fits n (front_value bs) k j m small is bound, rw is at told)

pub decimal_end : (n : ℕ) (bs : List ℕ) → read_decimals n 0 bs ≡ n
unfolding read_decimals
decimal_end n bs = refl

some_digits : (l x y : ℕ) → (l ≡ 0 → ⊥) → l ≤ 18 → (if (l == 0) || nat_lt 18 l then x else y) ≡ y
some_digits l x y some few = grind (arith, nat_tests)

pub number_is : (is_negative : Bool) (whole fraction : List ℕ) (count n : ℕ) → count ≡ length (front_digits whole) → (count ≡ 0 → ⊥) → count ≤ 18 →
    n ≡ read_decimals (read_on 0 (front_digits whole)) 9 fraction → place is_negative n ≡ number is_negative whole fraction
number_is is_negative whole fraction count n is some few value =
    rw value (sym (some_digits (length (front_digits whole)) (place false 0) (place is_negative (read_decimals (read_on 0 (front_digits whole)) 9 fraction)) (rw is at some) (rw is at few)))
