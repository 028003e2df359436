-- Levels and their decimal texts.
use Rattle.std.proofs.Common.{◌≡◌, ◌∙◌, ◌+◌, ◌-◌, ◌*◌, ◌/◌, ◌%◌, ◌<◌, ◌≤◌, ℕ, true, List, [], ◌∷◌, ap, ap₂, arith, inl, inr, sym}
use Rattle.std.specs.Prelude.{◌&&◌, decimal, nat_le, None, Some}
use Rattle.std.specs.Char.{is_ascii_digit}
use Rattle.std.specs.Str.Parse.{AllDigits, digits_value}
use Rattle.std.proofs.lemmas.Bool.{cases_Bool, cases_lt}
use Rattle.std.proofs.lemmas.Bool.Decides.{nat_tests}
use Rattle.std.proofs.lemmas.Fmt.{decimal-digits_value, decimal_digit}
use Rattle.std.proofs.lemmas.Str.{digit_value_digit}
use Rattle.std.proofs.lemmas.Str.Parse.{IsNumeralModel, numerals_by_value, tells_digits}
use Rattle.org_clocktable.specs.Laws.{LevelsAreSpelled}
use Rattle.org_clocktable.specs.Options.{level_of}

pub numerals : IsNumeralModel (AllDigits 10) (digits_value 10)
numerals = numerals_by_value (AllDigits 10) tells_digits

two_decimal : (h l : ℕ) → 1 ≤ h → h ≤ 9 → l ≤ 9 → decimal (10 * h + l) ≡ (48 + h) ∷ (48 + l) ∷ []
two_decimal h l some high low =
    let a = digit_value_digit (48 + h) (omega arith, omega (arith, high)) in
    let b = digit_value_digit (48 + l) (omega arith, omega (arith, low)) in
    let value : digits_value 10 ((48 + h) ∷ (48 + l) ∷ []) ≡ 10 * h + l = omega (arith, a, b) in
    ap decimal (sym value)
    ∙ decimal-digits_value numerals ((48 + h) ∷ (48 + l) ∷ []) (omega (arith, a, high), (omega (arith, b, low), tt)) (omega arith) (λ e. absurd (omega (arith, e, some))) (omega (arith, value, high, low))

one_test : (a : ℕ) → (nat_le 49 a && nat_le a 57) ≡ true → (49 ≤ a) × (a ≤ 57)
one_test a h = grind (arith, nat_tests, h)

two_test : (a b : ℕ) → (nat_le 49 a && nat_le a 57 && is_ascii_digit b) ≡ true → (49 ≤ a) × (a ≤ 57) × (48 ≤ b) × (b ≤ 57)
two_test a b h = grind (arith, nat_tests, h)

passes_one : (a : ℕ) → 49 ≤ a → a ≤ 57 → (nat_le 49 a && nat_le a 57) ≡ true
passes_one a low high = grind (arith, nat_tests)

passes_two : (a b : ℕ) → 49 ≤ a → a ≤ 57 → 48 ≤ b → b ≤ 57 → (nat_le 49 a && nat_le a 57 && is_ascii_digit b) ≡ true
passes_two a b low high from to = grind (arith, nat_tests)

to_level : (word : List ℕ) (n : ℕ) → level_of word ≡ Some n → (word ≡ decimal n) × (1 ≤ n) × (n ≤ 99)
to_level [] n e = absurd cc
to_level (a ∷ []) n e = elim (cases_Bool (nat_le 49 a && nat_le a 57)) [
  | inl yes' ↦
      let test = one_test a yes' in
      let found : Some (a - 48) ≡ Some n = rw yes' at e in
      let is : a - 48 ≡ n = cc in
      let text : decimal n ≡ (48 + n) ∷ [] = decimal_digit n (omega (arith, is, test.1)) in
      (ap (λ (c : ℕ). c ∷ []) (omega (arith, is, test.0)) ∙ sym text, omega (arith, is, test.0), omega (arith, is, test.1))
  | inr no' ↦ let none : None ≡ Some n = rw no' at e in absurd cc
]
to_level (a ∷ (b ∷ [])) n e = elim (cases_Bool (nat_le 49 a && nat_le a 57 && is_ascii_digit b)) [
  | inl yes' ↦
      let test = two_test a b yes' in
      let found : Some (10 * (a - 48) + (b - 48)) ≡ Some n = rw yes' at e in
      let is : 10 * (a - 48) + (b - 48) ≡ n = cc in
      let text = two_decimal (a - 48) (b - 48) (omega (arith, test.0)) (omega (arith, test.1)) (omega (arith, test.3)) in
      (ap₂ (λ (c d : ℕ). c ∷ d ∷ []) (omega (arith, test.0)) (omega (arith, test.2)) ∙ sym text ∙ ap decimal is, omega (arith, is, test.0), omega (arith, is, test.1, test.3))
  | inr no' ↦ let none : None ≡ Some n = rw no' at e in absurd cc
]
to_level (a ∷ (b ∷ (c ∷ more))) n e = absurd cc

from_one : (n : ℕ) → 1 ≤ n → n < 10 → level_of ((48 + n) ∷ []) ≡ Some n
from_one n some less = rw (passes_one (48 + n) (omega (arith, some)) (omega (arith, less))) (ap Some (omega arith))

from_two : (h l : ℕ) → 1 ≤ h → h ≤ 9 → l ≤ 9 → level_of ((48 + h) ∷ (48 + l) ∷ []) ≡ Some (10 * h + l)
from_two h l some high low = rw (passes_two (48 + h) (48 + l) (omega (arith, some)) (omega (arith, high)) (omega arith) (omega (arith, low))) (ap Some (omega arith))

from_level : (word : List ℕ) (n : ℕ) → word ≡ decimal n → 1 ≤ n → n ≤ 99 → level_of word ≡ Some n
from_level word n is some most = elim (cases_lt n 10) [
  | inl less ↦ ap level_of (is ∙ decimal_digit n less) ∙ from_one n some less
  | inr more ↦
      let whole : 10 * (n / 10) + n % 10 ≡ n = omega arith in
      let high : n / 10 ≤ 9 = omega (arith, most) in
      let ten : 1 ≤ n / 10 = omega (arith, more) in
      let low : n % 10 ≤ 9 = omega arith in
      ap level_of (is ∙ ap decimal (sym whole) ∙ two_decimal (n / 10) (n % 10) ten high low) ∙ from_two (n / 10) (n % 10) ten high low ∙ ap Some whole
]

pub levels : LevelsAreSpelled
levels word n = (to_level word n, λ h. from_level word n h.0 h.1 h.2)
