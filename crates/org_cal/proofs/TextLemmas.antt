-- Texts of days and times read back.
use Rattle.std.proofs.Common.{◌≡◌, ℕ, ◌+◌, ◌-◌, ◌*◌, ◌/◌, ◌%◌, ◌<◌, ◌≤◌, Bool, true, false, ◌&&◌, ◌==◌, if◌then◌else◌, List, [], ◌∷◌, ◌++◌, refl, ◌∙◌, ap, pos, arith}
use Rattle.std.proofs.lemmas.Bool.Decides.{nat_tests}
use Rattle.std.specs.Prelude.{Option, Some, None}
use Rattle.std.specs.Option.{option_map}
use Rattle.std.proofs.lemmas.Option.{option_and_then_some}
use Rattle.std.specs.Char.{is_ascii_digit}
use Rattle.jiff_core.proofs.CalendarLemmas.{days_in_month_bounds}
use Rattle.org_cal.specs.Days.{IsYearMonthDay, day_number}
use Rattle.org_cal.specs.Texts.{two_digits, four_digits, time_at, time_of, day_of, is_year_month_day, date_of, four, time_text, parts_text}

is_digit : (n : ℕ) → n < 10 → is_ascii_digit (48 + n) ≡ true
is_digit n h = grind (arith, nat_tests)

digits_value : (n : ℕ) → n < 100 → (48 + n / 10 - 48) * 10 + (48 + n % 10 - 48) ≡ n
digits_value n h = omega arith

pub two_digits-two : (n : ℕ) → n < 100 → two_digits (48 + n / 10) (48 + n % 10) ≡ Some n
two_digits-two n h = rw (is_digit (n / 10) (omega arith), is_digit (n % 10) (omega arith)) (ap Some (digits_value n h))

pub four_digits-four : (n : ℕ) → n < 10000 → four_digits (48 + n / 100 / 10) (48 + n / 100 % 10) (48 + n % 100 / 10) (48 + n % 100 % 10) ≡ Some n
four_digits-four n h = rw (two_digits-two (n / 100) (omega arith), two_digits-two (n % 100) (omega arith)) (ap Some (omega arith))

tested : (y m d : ℕ) → IsYearMonthDay y m d → is_year_month_day y m d ≡ true
tested y m d h = grind (arith, nat_tests, h)

time_value : (h m : ℕ) → h < 24 → m < 60 → time_at h m ≡ Some (h * 60 + m)
time_value h m low high = grind (arith, nat_tests)

-- the text of a time is read as that time
pub time_of-time_text : (c : ℕ) → c < 1440 → time_of (time_text c) ≡ Some c
time_of-time_text c h =
    rw (two_digits-two (c / 60) (omega arith), two_digits-two (c % 60) (omega arith))
    (time_value (c / 60) (c % 60) (omega arith) (omega arith) ∙ ap Some (omega arith))

pub date_of-parts_text : (y m d : ℕ) → IsYearMonthDay y m d → date_of (parts_text y m d) ≡ Some (day_number y m d)
date_of-parts_text y m d h =
    let long = days_in_month_bounds (pos y) m in
    rw (four_digits-four y (omega (arith, h.0)), two_digits-two m (omega (arith, h.1)), two_digits-two d (omega (arith, h.2, long)), tested y m d h) refl

-- the parts of a day have two digits, the year four
pub day_bounds : (y m d : ℕ) → IsYearMonthDay y m d → (y < 10000) × (m < 100) × (d < 100)
day_bounds y m d h =
    let long = days_in_month_bounds (pos y) m in
    (omega (arith, h.0), omega (arith, h.1), omega (arith, h.2, long))

-- digits are read as they are spelled

pub chosen : {A P : Type 0} (b : Bool) (x y z : A) → (if b then x else y) ≡ z → (b ≡ true → x ≡ z → P) → (b ≡ false → y ≡ z → P) → P
chosen true x y z e k h = k refl e
chosen false x y z e k h = h refl e

mapped : {A B P : Type 0} (f : A → B) (o : Option A) (y : B) → option_map f o ≡ Some y → ((x : A) → o ≡ Some x → f x ≡ y → P) → P
mapped f None y e k = absurd (cc)
mapped f (Some x) y e k = k x refl (cc)

pub record Two (a b n : ℕ) : Type 0 where
  pub high : a ≡ 48 + n / 10
  pub low : b ≡ 48 + n % 10
  pub few : n < 100

pub two_is : (a b n : ℕ) → two_digits a b ≡ Some n → Two a b n
two_is a b n e =
    chosen (is_ascii_digit a && is_ascii_digit b) _ _ _ e
    (λ digits is.
    let same : (a - 48) * 10 + (b - 48) ≡ n = (cc) in
    let first : (48 ≤ a) × (a ≤ 57) = (grind (arith, nat_tests), grind (arith, nat_tests)) in
    let second : (48 ≤ b) × (b ≤ 57) = (grind (arith, nat_tests), grind (arith, nat_tests)) in
    record { high = omega (arith, same, first.0, first.1, second.0, second.1); low = omega (arith, same, first.0, first.1, second.0, second.1); few = omega (arith, same, first.0, first.1, second.0, second.1) })
    (λ no is. absurd (cc))

pub four_is : (a b c d n : ℕ) → four_digits a b c d ≡ Some n → (n < 10_000) × (a ∷ b ∷ c ∷ d ∷ [] ≡ four n)
four_is a b c d n e =
    option_and_then_some _ (two_digits a b) n e (λ high was next. mapped _ (two_digits c d) n next (λ low had is.
    let x = two_is a b high was in
    let y = two_is c d low had in
    let same : high * 100 + low ≡ n = is in
    let first : n / 100 ≡ high = omega (arith, same, y.few) in
    let second : n % 100 ≡ low = omega (arith, same, y.few) in
    (omega (arith, same, x.few, y.few), rw (first, second, x.high, x.low, y.high, y.low) refl)))

real_day : (y m d : ℕ) → is_year_month_day y m d ≡ true → IsYearMonthDay y m d
real_day y m d e = grind (arith, nat_tests)

is_minus : (x : ℕ) → (x == 45) ≡ true → x ≡ 45
is_minus x e = grind (arith, nat_tests)

pub both : (a b : Bool) → (a && b) ≡ true → (a ≡ true) × (b ≡ true)
both true b e = (refl, e)
both false b e = cc

abbrev dated : List ℕ → ℕ → ℕ → ℕ → ℕ → ℕ → ℕ → List ℕ
dated years x e f y g h = years ++ x ∷ e ∷ f ∷ y ∷ g ∷ h ∷ []

-- a date is spelled by the parts of its day
pub record DateParts (w : List ℕ) (day : ℕ) : Type 0 where
  pub year : ℕ
  pub month : ℕ
  pub month_day : ℕ
  pub real : IsYearMonthDay year month month_day
  pub word_is : w ≡ parts_text year month month_day
  pub day_is : day ≡ day_number year month month_day

pub date_is : (w : List ℕ) (day : ℕ) → date_of w ≡ Some day → DateParts w day
date_is (a ∷ b ∷ c ∷ d ∷ x ∷ e ∷ f ∷ y ∷ g ∷ h ∷ []) day is =
    chosen (x == 45 && y == 45) _ _ _ is
    (λ dashes found. option_and_then_some _ (four_digits a b c d) day found (λ year was next.
    option_and_then_some _ (two_digits e f) day next (λ month had last.
    option_and_then_some (day_of year month) (two_digits g h) day last (λ date got end.
    chosen (is_year_month_day year month date) _ _ _ end
    (λ real same.
    let p = (four_is a b c d year was).1 in
    let q = two_is e f month had in
    let r = two_is g h date got in
    let minus = both (x == 45) (y == 45) dashes in
    record {
      year = year;
      month = month;
      month_day = date;
      real = real_day year month date real;
      word_is = ap (λ years. dated years x e f y g h) p ∙ rw (is_minus x minus.0, is_minus y minus.1, q.high, q.low, r.high, r.low) refl;
      day_is = let is : day ≡ day_number year month date = (cc) in is;
    })
    (λ no same. absurd (cc))))))
    (λ no found. absurd (cc))
date_is _ day is = absurd (cc)
