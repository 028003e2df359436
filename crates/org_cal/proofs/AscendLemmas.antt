-- Days of later months are later.
use Rattle.std.proofs.Common.{◌≡◌, ℕ, ◌+◌, ◌/◌, ◌%◌, ◌<◌, ◌≤◌, min, inl, inr, subst, ap, arith, pos}
use Rattle.std.proofs.lemmas.Bool.{cases_lt}
use Rattle.jiff_core.specs.Calendar.{day_count, days_in_month}
use Rattle.jiff_core.proofs.SignedLemmas.{signed_arith}
use Rattle.jiff_core.proofs.CalendarLemmas.{day_count-lt_year, day_count-lt_month, day_count-day}
use Rattle.org_cal.specs.Added.{month_index, day_of_month}
use Rattle.org_cal.specs.Days.{IsYearMonthDay, day_number}
use Rattle.org_cal.proofs.DayLemmas.{day_count-first}
use Rattle.org_cal.proofs.PartLemmas.{civil_of}
use Rattle.org_cal.proofs.AddedLemmas.{day_of_month_real}

pub parts_lt : (y m d y₂ m₂ d₂ : ℕ) → IsYearMonthDay y m d → IsYearMonthDay y₂ m₂ d₂ → month_index y m < month_index y₂ m₂ → day_number y m d < day_number y₂ m₂ d₂
parts_lt y m d y₂ m₂ d₂ h h₂ lt =
    let one = day_count-first y m d h.0.0 h.2.0 in
    let two = day_count-first y₂ m₂ d₂ h₂.0.0 h₂.2.0 in
    elim (cases_lt y y₂) [
      | inl a ↦ omega (arith, one, two, day_count-lt_year (pos y) m d (pos y₂) m₂ d₂ (civil_of y m d h) h₂.2.0 (omega (arith, signed_arith, a)))
      | inr a ↦
          let same : y ≡ y₂ = omega (arith, a, lt, h.1, h₂.1) in
          let e : day_count (pos y) m₂ d₂ ≡ day_count (pos y₂) m₂ d₂ = ap (λ k. day_count (pos k) m₂ d₂) same in
          omega (arith, one, two, e, day_count-lt_month (pos y) m d m₂ d₂ (civil_of y m d h) h₂.2.0 (omega (arith, same, lt, h.1, h₂.1)))
    ]

pub index_of : (i : ℕ) → month_index (i / 12) (i % 12 + 1) ≡ i
index_of i = omega arith

-- the days of one month ascend
pub in_month : (i d e : ℕ) → 12 ≤ i → i ≤ 119_999 → 1 ≤ d → d ≤ e → day_of_month i d ≤ day_of_month i e
in_month i d e low high one le =
    let y = i / 12 in
    let m = i % 12 + 1 in
    let a = day_of_month_real i d low high one in
    let b = day_of_month_real i e low high (omega arith) in
    omega (arith, day_count-first y m (min d (days_in_month (pos y) m)) a.0.0 a.2.0, day_count-day (pos y) m (min d (days_in_month (pos y) m)) (min e (days_in_month (pos y) m)) a.2.0 b.2.0)

-- the first day of a month is no later than a day of that or a later month
pub months_ordered : (i j d : ℕ) → 12 ≤ i → i ≤ j → j ≤ 119_999 → 1 ≤ d → day_of_month i 1 ≤ day_of_month j d
months_ordered i j d low le high one =
    elim (cases_lt i j) [
      | inl a ↦
          let here = day_of_month_real i 1 low (omega arith) (omega arith) in
          let there = day_of_month_real j d (omega arith) high one in
          omega (arith, parts_lt (i / 12) (i % 12 + 1) (min 1 (days_in_month (pos (i / 12)) (i % 12 + 1))) (j / 12) (j % 12 + 1) (min d (days_in_month (pos (j / 12)) (j % 12 + 1))) here there (omega (arith, a)))
      | inr a ↦
          let same : i ≡ j = omega (arith, a, le) in
          subst (λ k. day_of_month i 1 ≤ day_of_month k d) same (in_month i 1 d low (omega arith) (omega arith) one)
    ]
