-- A day and the months around it.
use Rattle.std.proofs.Common.{◌≡◌, ℕ, ◌+◌, ◌/◌, ◌%◌, ◌<◌, ◌≤◌, min, ◌⊎◌, inl, inr, ◌∙◌, ap, arith, pos}
use Rattle.std.proofs.lemmas.Bool.{cases_lt}
use Rattle.jiff_core.specs.Calendar.{days_in_month}
use Rattle.jiff_core.proofs.CalendarLemmas.{days_in_month_bounds}
use Rattle.org_cal.specs.Added.{month_index, day_of_month}
use Rattle.org_cal.specs.Blocks.{this_month}
use Rattle.org_cal.specs.Days.{IsDay, IsYearMonthDay, day_number}
use Rattle.org_cal.specs.Parts.{year_of, month_of, month_day_of}
use Rattle.org_cal.proofs.AddedLemmas.{day_of_month_real}
use Rattle.org_cal.proofs.AscendLemmas.{in_month, index_of, parts_lt}
use Rattle.org_cal.proofs.PartLemmas.{date_holds}

-- the months' numbers, and the year and month of them
pub month_bounds : (day : ℕ) → IsDay day → (12 ≤ this_month day) × (this_month day ≤ 119_999) × (year_of day ≡ this_month day / 12) × (month_of day ≡ this_month day % 12 + 1)
month_bounds day h =
    let real = (date_holds day h).0 in
    (omega (arith, real.0, real.1), omega (arith, real.0, real.1), omega (arith, real.0, real.1), omega (arith, real.0, real.1))

-- a day of a month by the month's number
pub as_month : (y m d : ℕ) → IsYearMonthDay y m d → day_number y m d ≡ day_of_month (month_index y m) d
as_month y m d h =
    let year : month_index y m / 12 ≡ y = omega (arith, h.1) in
    let month : month_index y m % 12 + 1 ≡ m = omega (arith, h.1) in
    rw (year, month) (ap (day_number y m) (let long = h.2.1 in omega (arith, long)))

pub as_day : (day : ℕ) → IsDay day → day ≡ day_of_month (this_month day) (month_day_of day)
as_day day h =
    let date = date_holds day h in
    date.1 ∙ as_month (year_of day) (month_of day) (month_day_of day) date.0

-- days of an earlier month are earlier
pub months_apart : (i j d e : ℕ) → 12 ≤ i → i < j → j ≤ 119_999 → 1 ≤ d → 1 ≤ e → day_of_month i d < day_of_month j e
months_apart i j d e low lt high one two =
    parts_lt (i / 12) (i % 12 + 1) (min d (days_in_month (pos (i / 12)) (i % 12 + 1))) (j / 12) (j % 12 + 1) (min e (days_in_month (pos (j / 12)) (j % 12 + 1)))
    (day_of_month_real i d low (omega (arith, lt, high)) one) (day_of_month_real j e (omega (arith, low, lt)) high two) (omega (arith, lt, index_of i, index_of j))

-- the day's place in its month is no more than 31
place_bounds : (day : ℕ) → IsDay day → (1 ≤ month_day_of day) × (month_day_of day ≤ 31)
place_bounds day h =
    let real = (date_holds day h).0 in
    let long = days_in_month_bounds (pos (year_of day)) (month_of day) in
    (real.2.0, omega (arith, real.2.1, long))

-- a day is of a month or a later one where that month has begun
pub at_least : (i day : ℕ) → 12 ≤ i → i ≤ 119_999 → IsDay day → (i ≤ this_month day → day_of_month i 1 ≤ day) × (day_of_month i 1 ≤ day → i ≤ this_month day)
at_least i day low high h =
    let t = this_month day in
    let d = month_day_of day in
    let is = as_day day h in
    let bound = month_bounds day h in
    let place = place_bounds day h in (
      λ le. elim (cases_lt i t) [
        | inl a ↦ omega (arith, is, months_apart i t 1 d low a bound.1 (omega arith) place.0)
        | inr a ↦
            let same : i ≡ t = omega (arith, a, le) in
            let e : day_of_month i 1 ≡ day_of_month t 1 = ap (λ k. day_of_month k 1) same in
            omega (arith, is, e, in_month t 1 d bound.0 bound.1 (omega arith) place.0)
      ],
      λ begun. elim (cases_lt t i) [
        | inl a ↦ absurd (omega (arith, is, begun, months_apart t i d 1 bound.0 a high place.0 (omega arith)))
        | inr a ↦ a
      ],
    )

-- and of that or an earlier one where it has not ended
pub at_most : (j day : ℕ) → 12 ≤ j → j ≤ 119_999 → IsDay day → (this_month day ≤ j → day ≤ day_of_month j 31) × (day ≤ day_of_month j 31 → this_month day ≤ j)
at_most j day low high h =
    let t = this_month day in
    let d = month_day_of day in
    let is = as_day day h in
    let bound = month_bounds day h in
    let place = place_bounds day h in (
      λ le. elim (cases_lt t j) [
        | inl a ↦ omega (arith, is, months_apart t j d 31 bound.0 a high place.0 (omega arith))
        | inr a ↦
            let same : t ≡ j = omega (arith, a, le) in
            let e : day_of_month t 31 ≡ day_of_month j 31 = ap (λ k. day_of_month k 31) same in
            omega (arith, is, e, in_month t d 31 bound.0 bound.1 place.0 place.1)
      ],
      λ before. elim (cases_lt j t) [
        | inl a ↦ absurd (omega (arith, is, before, months_apart j t 31 d low a bound.1 (omega arith) place.0))
        | inr a ↦ a
      ],
    )

-- from one day to the next the month stays or is the next one
pub next_month : (day : ℕ) → IsDay day → IsDay (day + 1) → (this_month (day + 1) ≡ this_month day) ⊎ (this_month (day + 1) ≡ this_month day + 1)
next_month day h k =
    let t = this_month day in
    let u = this_month (day + 1) in
    let here = month_bounds day h in
    let there = month_bounds (day + 1) k in
    let later : t ≤ u = (at_least t (day + 1) here.0 here.1 k).1 (let begun = (at_least t day here.0 here.1 h).0 (omega arith) in omega (arith, begun)) in
    elim (cases_lt (t + 1) u) [
      | inl a ↦
          let past = (at_least (t + 1) day (omega (arith, here.0)) (omega (arith, a, there.1)) h) in
          let early = (at_most (t + 1) (day + 1) (omega (arith, here.0)) (omega (arith, a, there.1)) k) in
          let long = in_month (t + 1) 1 31 (omega (arith, here.0)) (omega (arith, a, there.1)) (omega arith) (omega arith) in
          elim (cases_lt day (day_of_month (t + 1) 1)) [
            | inl b ↦ absurd (omega (arith, a, early.1 (omega (arith, b, long))))
            | inr b ↦ absurd (omega (arith, past.1 b))
          ]
      | inr a ↦ elim (cases_lt t u) [
        | inl b ↦ inr (omega (arith, a, b))
        | inr b ↦ inl (omega (arith, b, later))
      ]
    ]
