-- Numbers are the values of their digits, and at the front of a text that of the longest decimal.
use Rattle.std.proofs.Common.{◌≡◌, ◌⊎◌, ℕ, zero, suc, ◌+◌, ◌-◌, ◌*◌, ◌^◌, ◌<◌, ◌≤◌, inl, inr, Bool, true, false, ◌&&◌, ◌||◌, ◌==◌, nat_lt, if◌then◌else◌, List, [], ◌∷◌, ◌++◌, length, take, drop, replicate, refl, sym, subst, ◌∙◌, ap, arith, codes, length-append, length-take}
use Rattle.std.specs.Char.{is_ascii_digit, digit_value}
use Rattle.std.specs.Str.{all_ascii_digits}
use Rattle.std.specs.Str.Parse.{digits_value_after}
use Rattle.std.proofs.lemmas.Bool.{cases_Bool, cases_lt}
use Rattle.std.proofs.lemmas.Bool.Decides.{nat_tests}
use Rattle.std.proofs.lemmas.Str.Parse.{digits_value_short, numerals_by_value, tells_all_ascii_digits}
use Rattle.org_expression.specs.Decimal.{front_digits, read_on, read_decimals, place, number, behind_point, unsigned_decimal, number_at}
use Rattle.org_expression.specs.Laws.{NumbersAreValues, FrontsAreDecimals}
use Rattle.org_expression.specs.Spelled.{AreDigits, Decimal, IsFraction, IsSign, IsValue, NoDigit, NoPoint, billionths}

-- digits, and those at the front

both : (a b : Bool) → (a && b) ≡ true → (a ≡ true) × (b ≡ true)
both true b e = (refl, e)
both false b e = absurd (cc)

pair : (a b : Bool) → a ≡ true → b ≡ true → (a && b) ≡ true
pair a b e f = rw (e, f) refl

pub front_digits_are : (bs : List ℕ) → AreDigits (front_digits bs)
front_digits_are [] = refl
front_digits_are (b ∷ bs) = elim (cases_Bool (is_ascii_digit b)) [
  | inl digit ↦ rw digit (rw digit (front_digits_are bs))
  | inr other ↦ rw other refl
]

pub front_again : (ds rest : List ℕ) → AreDigits ds → NoDigit rest → front_digits (ds ++ rest) ≡ ds
front_again [] [] h none = refl
front_again [] (b ∷ bs) h none = rw none refl
front_again (d ∷ ds) rest h none =
    let parts = both (is_ascii_digit d) (all_ascii_digits ds) h in
    let digit = parts.0 in
    rw digit (ap (λ t. d ∷ t) (front_again ds rest parts.1 none))

nil_right : (bs : List ℕ) → bs ++ [] ≡ bs
nil_right [] = refl
nil_right (b ∷ bs) = ap (λ t. b ∷ t) (nil_right bs)

front_whole : (ds : List ℕ) → AreDigits ds → front_digits ds ≡ ds
front_whole ds h = ap front_digits (sym (nil_right ds)) ∙ front_again ds [] h tt

digits_joined : (xs ys : List ℕ) → AreDigits xs → AreDigits ys → AreDigits (xs ++ ys)
digits_joined [] ys h k = k
digits_joined (x ∷ xs) ys h k =
    let parts = both (is_ascii_digit x) (all_ascii_digits xs) h in
    pair (is_ascii_digit x) (all_ascii_digits (xs ++ ys)) parts.0 (digits_joined xs ys parts.1 k)

digits_taken : (k : ℕ) (xs : List ℕ) → AreDigits xs → AreDigits (take k xs)
digits_taken zero xs h = refl
digits_taken (suc k) [] h = refl
digits_taken (suc k) (x ∷ xs) h =
    let parts = both (is_ascii_digit x) (all_ascii_digits xs) h in
    pair (is_ascii_digit x) (all_ascii_digits (take k xs)) parts.0 (digits_taken k xs parts.1)

zeros_digits : (k : ℕ) → AreDigits (replicate k 48)
zeros_digits zero = refl
zeros_digits (suc k) = zeros_digits k

-- the digits that are read

read_joined : (n : ℕ) (xs ys : List ℕ) → read_on n (xs ++ ys) ≡ read_on (read_on n xs) ys
read_joined n [] ys = refl
read_joined n (x ∷ xs) ys = read_joined (10 * n + (x - 48)) xs ys

one_more : (n d : ℕ) → is_ascii_digit d ≡ true → 10 * n + (d - 48) ≡ n * 10 + digit_value d
one_more n d h = let is : digit_value d ≡ d - 48 = grind (arith, nat_tests) in omega (arith, is)

pub read_is : (n : ℕ) (ds : List ℕ) → AreDigits ds → read_on n ds ≡ digits_value_after 10 n ds
read_is n [] h = refl
read_is n (d ∷ ds) h =
    let parts = both (is_ascii_digit d) (all_ascii_digits ds) h in
    ap (λ k. read_on k ds) (one_more n d parts.0) ∙ read_is (n * 10 + digit_value d) ds parts.1

-- decimals are the digits at the front, and zeros
padded_none : (n k m : ℕ) → k ≤ m → read_decimals n k [] ≡ read_on n (take k (replicate m 48))
unfolding read_decimals
padded_none n zero m le = refl
padded_none n (suc k) zero le = absurd (omega (arith, le))
padded_none n (suc k) (suc m) le = padded_none (10 * n + 0) k m (omega (arith, le))

nothing_more : (n k : ℕ) (b : ℕ) (bs : List ℕ) → is_ascii_digit b ≡ false → read_decimals n k (b ∷ bs) ≡ read_decimals n k []
unfolding read_decimals
nothing_more n zero b bs h = refl
nothing_more n (suc k) b bs h = rw h refl

padded : (n k m : ℕ) (bs : List ℕ) → k ≤ m → read_decimals n k bs ≡ read_on n (take k (front_digits bs ++ replicate m 48))
unfolding read_decimals
padded n zero m bs le = refl
padded n (suc k) m [] le = padded_none n (suc k) m le
padded n (suc k) m (b ∷ bs) le = elim (cases_Bool (is_ascii_digit b)) [
  | inl digit ↦ rw digit (padded (10 * n + (b - 48)) k m bs (omega (arith, le)))
  | inr other ↦ nothing_more n (suc k) b bs other ∙ (padded_none n (suc k) m le ∙ ap (λ t. read_on n (take (suc k) (t ++ replicate m 48))) (let none : [] ≡ front_digits (b ∷ bs) = rw other refl in none))
]

value_below : (whole fraction : List ℕ) → AreDigits whole → AreDigits fraction → length whole ≤ 18 → billionths whole fraction < 10 ^ 27
value_below whole fraction h k few =
    let nine = take 9 (fraction ++ replicate 9 48) in
    digits_value_short (numerals_by_value (λ ds. all_ascii_digits ds ≡ true) tells_all_ascii_digits) (whole ++ nine) 27
    (digits_joined whole nine h (digits_taken 9 (fraction ++ replicate 9 48) (digits_joined fraction (replicate 9 48) k (zeros_digits 9))))
    (omega (arith, few, length-append whole nine, length-take 9 (fraction ++ replicate 9 48)))

placed : (negative : Bool) (whole fraction : List ℕ) (n : ℕ) → n ≡ billionths whole fraction → n < 10 ^ 27 → IsValue negative whole fraction (place negative n)
placed true whole fraction n is below = omega (arith, is, below)
placed false whole fraction n is below = ap (λ k. 10 ^ 27 + k) is

some_digits : (l x y : ℕ) → 1 ≤ l → l ≤ 18 → (if (l == 0) || nat_lt 18 l then x else y) ≡ y
some_digits l x y some few = grind (arith, nat_tests)

other_digits : (l x y : ℕ) → (l ≡ 0) ⊎ (18 < l) → (if (l == 0) || nat_lt 18 l then x else y) ≡ x
other_digits l x y (inl none) = grind (arith, nat_tests)
other_digits l x y (inr many) = grind (arith, nat_tests)

-- the number of texts by the digits at their fronts
number_is : (negative : Bool) (w f : List ℕ) → 1 ≤ length (front_digits w) → length (front_digits w) ≤ 18 → IsValue negative (front_digits w) (front_digits f) (number negative w f)
number_is negative w f some few =
    let whole = front_digits w in
    let fraction = front_digits f in
    let n = read_decimals (read_on 0 whole) 9 f in
    let nine = take 9 (fraction ++ replicate 9 48) in
    let digits = digits_joined whole nine (front_digits_are w) (digits_taken 9 (fraction ++ replicate 9 48) (digits_joined fraction (replicate 9 48) (front_digits_are f) (zeros_digits 9))) in
    let is : n ≡ billionths whole fraction = padded (read_on 0 whole) 9 9 f (omega arith) ∙ (sym (read_joined 0 whole nine) ∙ read_is 0 (whole ++ nine) digits) in
    let below : n < 10 ^ 27 = subst (λ k. k < 10 ^ 27) (sym is) (value_below whole fraction (front_digits_are w) (front_digits_are f) few) in
    subst (IsValue negative whole fraction) (sym (some_digits (length whole) (place false 0) (place negative n) some few)) (placed negative whole fraction n is below)

pub numbers_are_values : NumbersAreValues
numbers_are_values negative whole fraction h k some few =
    let w = front_whole whole h in
    let f = front_whole fraction k in
    subst (λ t. IsValue negative whole t (number negative whole fraction)) f
    (subst (λ t. IsValue negative t (front_digits fraction) (number negative whole fraction)) w
    (number_is negative whole fraction (subst (λ t. 1 ≤ length t) (sym w) some) (subst (λ t. length t ≤ 18) (sym w) few)))

-- what is spelled at the front is read

pub drop_front : (w rest : List ℕ) → drop (length w) (w ++ rest) ≡ rest
drop_front [] rest = refl
drop_front (b ∷ bs) rest = drop_front bs rest

no_digit : (part fraction rest : List ℕ) → IsFraction part fraction rest → NoDigit rest → NoDigit (part ++ rest)
no_digit part fraction rest (inl is) none = subst (λ t. NoDigit (t ++ rest)) (sym is) refl
no_digit part fraction rest (inr is) none = subst (λ t. NoDigit (t ++ rest)) (sym is.0) none

no_point : (rest : List ℕ) → NoPoint rest → behind_point rest ≡ []
no_point [] h = refl
no_point (b ∷ bs) h = elim (cases_Bool (b == 46)) [
  | inl point ↦ absurd (h (grind (arith, nat_tests)))
  | inr other ↦ rw other refl
]

behind_is : (part fraction rest : List ℕ) → IsFraction part fraction rest → AreDigits fraction → NoDigit rest → front_digits (behind_point (part ++ rest)) ≡ fraction
behind_is part fraction rest (inl is) h none = ap (λ t. front_digits (behind_point (t ++ rest))) is ∙ front_again fraction rest h none
behind_is part fraction rest (inr is) h none =
    ap (λ t. front_digits (behind_point (t ++ rest))) is.0 ∙ (ap front_digits (no_point rest is.2) ∙ sym is.1)

unsigned_is : (negative : Bool) (whole part fraction rest : List ℕ) → AreDigits whole → 1 ≤ length whole → length whole ≤ 18 → IsFraction part fraction rest → AreDigits fraction → NoDigit rest →
    IsValue negative whole fraction (unsigned_decimal negative (whole ++ (part ++ rest)))
unsigned_is negative whole part fraction rest h some few p k none =
    let bs = whole ++ (part ++ rest) in
    let front : front_digits bs ≡ whole = front_again whole (part ++ rest) h (no_digit part fraction rest p none) in
    let left : drop (length (front_digits bs)) bs ≡ part ++ rest = ap (λ t. drop (length t) bs) front ∙ drop_front whole (part ++ rest) in
    let decimals : front_digits (behind_point (drop (length (front_digits bs)) bs)) ≡ fraction = ap (λ t. front_digits (behind_point t)) left ∙ behind_is part fraction rest p k none in
    subst (λ t. IsValue negative whole t (unsigned_decimal negative bs)) decimals
    (subst (λ t. IsValue negative t (front_digits (behind_point (drop (length (front_digits bs)) bs))) (unsigned_decimal negative bs)) front
    (number_is negative bs (behind_point (drop (length (front_digits bs)) bs)) (subst (λ t. 1 ≤ length t) (sym front) some) (subst (λ t. length t ≤ 18) (sym front) few)))

first_digit : (b : ℕ) (bs : List ℕ) → is_ascii_digit b ≡ true → number_at (b ∷ bs) ≡ unsigned_decimal false (b ∷ bs)
first_digit b bs h =
    let minus : (b == 45) ≡ false = grind (arith, nat_tests) in
    let plus : (b == 43) ≡ false = grind (arith, nat_tests) in
    rw (minus, plus) refl

plain_digits : (whole tail : List ℕ) → AreDigits whole → 1 ≤ length whole → number_at (whole ++ tail) ≡ unsigned_decimal false (whole ++ tail)
plain_digits [] tail h some = absurd (omega (arith, some))
plain_digits (b ∷ bs) tail h some = first_digit b (bs ++ tail) (both (is_ascii_digit b) (all_ascii_digits bs) h).0

signed_is : (negative : Bool) (sign whole tail : List ℕ) → IsSign negative sign → AreDigits whole → 1 ≤ length whole → number_at (sign ++ (whole ++ tail)) ≡ unsigned_decimal negative (whole ++ tail)
signed_is true sign whole tail is h some = ap (λ t. number_at (t ++ (whole ++ tail))) is
signed_is false sign whole tail (inl is) h some = ap (λ t. number_at (t ++ (whole ++ tail))) is ∙ plain_digits whole tail h some
signed_is false sign whole tail (inr is) h some = ap (λ t. number_at (t ++ (whole ++ tail))) is

decimal_read : (text : List ℕ) (d : Decimal text) → IsValue d.negative d.whole d.fraction (number_at text)
decimal_read text d =
    subst (IsValue d.negative d.whole d.fraction)
    (sym (ap number_at d.text_is ∙ signed_is d.negative d.sign d.whole (d.part ++ d.rest) d.sign_is d.whole_is d.some))
    (unsigned_is d.negative d.whole d.part d.fraction d.rest d.whole_is d.some d.few d.part_is d.fraction_is d.ends)

-- what isn't spelled there is none

pub take_digits : (bs : List ℕ) → bs ≡ front_digits bs ++ drop (length (front_digits bs)) bs
take_digits [] = refl
take_digits (b ∷ bs) = elim (cases_Bool (is_ascii_digit b)) [
  | inl digit ↦ rw digit (ap (λ t. b ∷ t) (take_digits bs))
  | inr other ↦ rw other refl
]

digits_end : (bs : List ℕ) → NoDigit (drop (length (front_digits bs)) bs)
digits_end [] = tt
digits_end (b ∷ bs) = elim (cases_Bool (is_ascii_digit b)) [
  | inl digit ↦ rw digit (digits_end bs)
  | inr other ↦ rw other other
]

record Tail (tail : List ℕ) : Type 0 where
  pub part : List ℕ
  pub fraction : List ℕ
  pub rest : List ℕ
  pub tail_is : tail ≡ part ++ rest
  pub part_is : IsFraction part fraction rest
  pub fraction_is : AreDigits fraction
  pub ends : NoDigit rest

tail_of : (tail : List ℕ) → NoDigit tail → Tail tail
tail_of [] h = record { part = []; fraction = []; rest = []; tail_is = refl; part_is = inr (refl, refl, tt); fraction_is = refl; ends = tt }
tail_of (b ∷ bs) h = elim (cases_Bool (b == 46)) [
  | inl point ↦
      let is : b ≡ 46 = grind (arith, nat_tests) in
      record {
        part = 46 ∷ front_digits bs;
        fraction = front_digits bs;
        rest = drop (length (front_digits bs)) bs;
        tail_is = ap (λ c. c ∷ bs) is ∙ ap (λ t. 46 ∷ t) (take_digits bs);
        part_is = inl refl;
        fraction_is = front_digits_are bs;
        ends = digits_end bs;
      }
  | inr other ↦
      let apart : (b ≡ 46) → ⊥ = λ is. absurd (let same : (b == 46) ≡ true = grind (arith, nat_tests) in (let wrong : true ≡ false = sym same ∙ other in cc)) in
      record { part = []; fraction = []; rest = b ∷ bs; tail_is = refl; part_is = inr (refl, refl, apart); fraction_is = refl; ends = h }
]

decimal_at : (negative : Bool) (sign bs : List ℕ) → IsSign negative sign → 1 ≤ length (front_digits bs) → length (front_digits bs) ≤ 18 → Decimal (sign ++ bs)
decimal_at negative sign bs is some few =
    let t = tail_of (drop (length (front_digits bs)) bs) (digits_end bs) in
    record {
      negative = negative;
      sign = sign;
      whole = front_digits bs;
      part = t.part;
      fraction = t.fraction;
      rest = t.rest;
      text_is = ap (λ x. sign ++ x) (take_digits bs ∙ ap (λ x. front_digits bs ++ x) t.tail_is);
      sign_is = is;
      some = some;
      few = few;
      whole_is = front_digits_are bs;
      part_is = t.part_is;
      fraction_is = t.fraction_is;
      ends = t.ends;
    }

-- without a decimal after the sign the number is that of 0
nothing_read : (negative : Bool) (sign bs : List ℕ) → IsSign negative sign → (Decimal (sign ++ bs) → ⊥) → unsigned_decimal negative bs ≡ 10 ^ 27
nothing_read negative sign bs is none =
    let l = length (front_digits bs) in
    let zeroth : (if (l == 0) || nat_lt 18 l then place false 0 else place negative (read_decimals (read_on 0 (front_digits bs)) 9 (behind_point (drop l bs)))) ≡ place false 0 =
    elim (cases_lt 18 l) [
      | inl many ↦ other_digits l (place false 0) _ (inr many)
      | inr few ↦ elim (cases_lt 0 l) [
        | inl some ↦ absurd (none (decimal_at negative sign bs is some few))
        | inr none_there ↦ other_digits l (place false 0) _ (inl (omega (arith, none_there)))
      ]
    ] in
    zeroth ∙ omega arith

nothing_there : (text : List ℕ) → (Decimal text → ⊥) → number_at text ≡ 10 ^ 27
nothing_there [] none = omega arith
nothing_there (b ∷ bs) none = elim (cases_Bool (b == 45)) [
  | inl minus ↦
      let is : b ≡ 45 = grind (arith, nat_tests) in
      rw minus (nothing_read true (codes "-") bs refl (λ d. none (subst (λ c. Decimal (c ∷ bs)) (sym is) d)))
  | inr more ↦ elim (cases_Bool (b == 43)) [
    | inl plus ↦
        let is : b ≡ 43 = grind (arith, nat_tests) in
        rw (more, plus) (nothing_read false (codes "+") bs (inr refl) (λ d. none (subst (λ c. Decimal (c ∷ bs)) (sym is) d)))
    | inr other ↦ rw (more, other) (nothing_read false [] (b ∷ bs) (inl refl) none)
  ]
]

pub fronts_are_decimals : FrontsAreDecimals
fronts_are_decimals text = (decimal_read text, nothing_there text)
