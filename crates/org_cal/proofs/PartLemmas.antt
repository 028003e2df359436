-- The date of a day's number.
use Rattle.std.proofs.Common.{◌≡◌, ℕ, zero, suc, ◌+◌, ◌-◌, ◌<◌, ◌≤◌, Bool, true, false, nat_le, inl, inr, sym, ◌∙◌, ap, arith, pos}
use Rattle.std.proofs.lemmas.Bool.{cases_Bool, cases_lt, true≢false}
use Rattle.std.proofs.lemmas.Bool.Decides.{nat_tests}
use Rattle.std.proofs.lemmas.Int.{by_lt_z}
use Rattle.jiff_core.specs.Calendar.{IsCivilDate, days_in_month}
use Rattle.jiff_core.proofs.SignedLemmas.{signed_arith}
use Rattle.jiff_core.proofs.CalendarLemmas.{day_count-later_year, days_in_year_bounds, day_count-lt_year, day_count-lt_month, day_count-day, day_count-day_of_year, day_count-last_of_year, day_count-next_month, day_count-next_year, day_count-end}
use Rattle.org_cal.specs.Days.{IsDay, IsYearMonthDay, day_number}
use Rattle.org_cal.specs.Parts.{greatest, year_of, month_of, month_day_of}
use Rattle.org_cal.proofs.DayLemmas.{first_day, day_count-first}

-- a number that passes where fails greater one up to the bound does is the greatest
pub greatest_is : (passes : ℕ → Bool) (bound n : ℕ) → 1 ≤ n → n ≤ bound → passes n ≡ true → ((k : ℕ) → n < k → k ≤ bound → passes k ≡ false) → greatest passes bound ≡ n
unfolding greatest
greatest_is passes zero n low high holds none = absurd (omega arith)
greatest_is passes (suc bound) n low high holds none =
    by_lt_z (pos n) (pos (suc bound))
    (λ lt. let fails : passes (suc bound) ≡ false = none (suc bound) (omega (arith, signed_arith)) (omega arith) in
    let rest = greatest_is passes bound n low (omega (arith, signed_arith)) holds (λ k a b. none k a (omega arith)) in
    rw fails rest)
    (λ ge. let same : n ≡ suc bound = omega (arith, signed_arith) in
    let hit : passes (suc bound) ≡ true = sym (ap passes same) ∙ holds in
    rw hit (sym same))

pub civil_of : (y m d : ℕ) → IsYearMonthDay y m d → IsCivilDate (pos y) m d
civil_of y m d h = ((omega (arith, signed_arith, h.0), omega (arith, signed_arith, h.0)), h.1, h.2)

-- a later year begins after the day
later_year : (y m d k : ℕ) → IsYearMonthDay y m d → y < k → nat_le (day_number k 1 1) (day_number y m d) ≡ false
later_year y m d k h later =
    let lt = day_count-lt_year (pos y) m d (pos k) 1 1 (civil_of y m d h) (omega arith) (omega (arith, signed_arith)) in
    let first = day_count-first y m d h.0.0 h.2.0 in
    grind (arith, nat_tests)

-- its own year has begun
own_year : (y m d : ℕ) → IsYearMonthDay y m d → nat_le (day_number y 1 1) (day_number y m d) ≡ true
own_year y m d h =
    let place = day_count-day_of_year (pos y) m d h.2.0 in
    let first = day_count-first y 1 1 h.0.0 (omega arith) in
    let ordered : day_number y 1 1 ≤ day_number y m d = omega (arith, place, h.2.0) in
    grind (arith, nat_tests)

pub year_of-day_number : (y m d : ℕ) → IsYearMonthDay y m d → year_of (day_number y m d) ≡ y
unfolding year_of
year_of-day_number y m d h =
    greatest_is (λ k. nat_le (day_number k 1 1) (day_number y m d)) 9999 y h.0.0 h.0.1 (own_year y m d h) (λ k later in_years. later_year y m d k h later)

later_month : (y m d k : ℕ) → IsYearMonthDay y m d → m < k → nat_le (day_number y k 1) (day_number y m d) ≡ false
later_month y m d k h later =
    let lt = day_count-lt_month (pos y) m d k 1 (civil_of y m d h) (omega arith) later in
    let first = day_count-first y m d h.0.0 h.2.0 in
    grind (arith, nat_tests)

-- the place in the month
place : (y m d : ℕ) → IsYearMonthDay y m d → day_number y m d ≡ day_number y m 1 + (d - 1)
place y m d h = omega (arith, h.2.0, day_count-day (pos y) m d 1 h.2.0 (omega arith), day_count-first y m 1 h.0.0 (omega arith))

own_month : (y m d : ℕ) → IsYearMonthDay y m d → nat_le (day_number y m 1) (day_number y m d) ≡ true
own_month y m d h = let e = place y m d h in grind (arith, nat_tests)

pub month_of-day_number : (y m d : ℕ) → IsYearMonthDay y m d → month_of (day_number y m d) ≡ m
unfolding month_of
month_of-day_number y m d h =
    ap (λ year. greatest (λ k. nat_le (day_number year k 1) (day_number y m d)) 12) (year_of-day_number y m d h)
    ∙ greatest_is (λ k. nat_le (day_number y k 1) (day_number y m d)) 12 m h.1.0 h.1.1 (own_month y m d h) (λ k later in_year. later_month y m d k h later)

pub month_day_of-day_number : (y m d : ℕ) → IsYearMonthDay y m d → month_day_of (day_number y m d) ≡ d
unfolding month_day_of
month_day_of-day_number y m d h =
    ap (λ year. day_number y m d - day_number year (month_of (day_number y m d)) 1 + 1) (year_of-day_number y m d h)
    ∙ ap (λ month. day_number y m d - day_number y month 1 + 1) (month_of-day_number y m d h)
    ∙ omega (arith, place y m d h, h.2.0)

-- the parts of a day, where it has these
pub parts_are : (day y m d : ℕ) → IsYearMonthDay y m d → day ≡ day_number y m d → (year_of day ≡ y) × (month_of day ≡ m) × (month_day_of day ≡ d)
parts_are day y m d h e =
    (ap year_of e ∙ year_of-day_number y m d h, ap month_of e ∙ month_of-day_number y m d h, ap month_day_of e ∙ month_day_of-day_number y m d h)

later_starts : (y k : ℕ) → 1 ≤ y → y < k → day_number y 1 1 < day_number k 1 1
later_starts y k one later =
    let more = day_count-later_year (pos y) (pos k) (omega (arith, signed_arith)) (omega (arith, signed_arith)) in
    let long = days_in_year_bounds (pos y) in
    let first = day_count-first y 1 1 one (omega arith) in
    omega (arith, more, long, first)

-- a day from a year's first on and before the next year's lies in that year
pub year_is : (y day : ℕ) → 1 ≤ y → y ≤ 9999 → day_number y 1 1 ≤ day → day < day_number (y + 1) 1 1 → year_of day ≡ y
unfolding year_of
year_is y day one last from before =
    greatest_is (λ k. nat_le (day_number k 1 1) day) 9999 y one last (grind (arith, nat_tests)) (λ k later in_years. not_begun k later)
  where
    not_begun : (k : ℕ) → y < k → nat_le (day_number k 1 1) day ≡ false
    not_begun k later = by_lt_z (pos (y + 1)) (pos k)
        (λ lt. let more = later_starts (y + 1) k (omega arith) (omega (arith, signed_arith)) in grind (arith, nat_tests))
        (λ ge. let same : k ≡ y + 1 = omega (arith, signed_arith) in let start : day_number k 1 1 ≡ day_number (y + 1) 1 1 = ap (λ z. day_number z 1 1) same in grind (arith, nat_tests))

-- the greatest number passes where one does, and none above it
greatest_passes : (passes : ℕ → Bool) (bound n : ℕ) → 1 ≤ n → n ≤ bound → passes n ≡ true → (n ≤ greatest passes bound) × (greatest passes bound ≤ bound) × (passes (greatest passes bound) ≡ true) × ((k : ℕ) → greatest passes bound < k → k ≤ bound → passes k ≡ false)
unfolding greatest
greatest_passes passes zero n low high holds = absurd (omega (arith, low, high))
greatest_passes passes (suc b) n low high holds =
    elim (cases_Bool (passes (suc b))) [
      | inl hit ↦ rw hit (high, omega arith, hit, λ k above below. absurd (omega (arith, above, below)))
      | inr miss ↦
          elim (cases_lt b n) [
            | inl a ↦
                let same : n ≡ suc b = omega (arith, a, high) in
                absurd (true≢false (sym holds ∙ (ap passes same ∙ miss)))
            | inr a ↦
                let rest = greatest_passes passes b n low a holds in
                rw miss (
                  rest.0,
                  omega (arith, rest.1),
                  rest.2,
                  λ k above below. elim (cases_lt b k) [
                    | inl over ↦ ap passes (omega (arith, over, below)) ∙ miss
                    | inr within ↦ rest.3 k above within
                  ],
                )
          ]
    ]

begun : (n day : ℕ) → nat_le n day ≡ true → n ≤ day
begun n day h = grind (arith, nat_tests)

not_begun : (n day : ℕ) → nat_le n day ≡ false → day < n
not_begun n day h = grind (arith, nat_tests)

-- the year 10000 begins after the last day
pub after_all : day_number 10000 1 1 ≡ 3_652_060
after_all = omega (arith, day_count-end)

-- the days from the first of the year to the next year's lie in it
pub year_holds : (day : ℕ) → IsDay day → (1 ≤ year_of day) × (year_of day ≤ 9999) × (day_number (year_of day) 1 1 ≤ day) × (day < day_number (year_of day + 1) 1 1)
unfolding year_of
year_holds day h =
    let one : nat_le (day_number 1 1 1) day ≡ true = let low = first_day in grind (arith, nat_tests, h) in
    let found = greatest_passes (λ k. nat_le (day_number k 1 1) day) 9999 1 (omega arith) (omega arith) one in
    let y = greatest (λ k. nat_le (day_number k 1 1) day) 9999 in
    let next : day < day_number (y + 1) 1 1 = elim (cases_lt y 9999) [
      | inl a ↦ not_begun (day_number (y + 1) 1 1) day (found.3 (y + 1) (omega arith) (omega (arith, a)))
      | inr a ↦
          let same : y + 1 ≡ 10000 = omega (arith, a, found.1) in
          let start : day_number (y + 1) 1 1 ≡ day_number 10000 1 1 = ap (λ k. day_number k 1 1) same in
          omega (arith, start, after_all, h)
    ] in
    (found.0, found.1, begun (day_number y 1 1) day found.2, next)

-- December ends with the year
december : (y : ℕ) → 1 ≤ y → day_number y 12 1 + days_in_month (pos y) 12 ≡ day_number (y + 1) 1 1
december y one =
    let last = day_count-last_of_year (pos y) in
    let next = day_count-next_year (pos y) (pos (y + 1)) (omega (arith, signed_arith)) (omega (arith, signed_arith)) in
    let day = day_count-day (pos y) 12 31 1 (omega arith) (omega arith) in
    let first = day_count-first y 12 1 one (omega arith) in
    omega (arith, last, next, day, first)

-- the day lies among the days of its month
pub month_holds : (day : ℕ) → IsDay day → (1 ≤ month_of day) × (month_of day ≤ 12) × (day_number (year_of day) (month_of day) 1 ≤ day) × (day < day_number (year_of day) (month_of day) 1 + days_in_month (pos (year_of day)) (month_of day))
unfolding month_of
month_holds day h =
    let y = year_of day in
    let year = year_holds day h in
    let one : nat_le (day_number y 1 1) day ≡ true = grind (arith, nat_tests, year) in
    let found = greatest_passes (λ k. nat_le (day_number y k 1) day) 12 1 (omega arith) (omega arith) one in
    let m = greatest (λ k. nat_le (day_number y k 1) day) 12 in
    let next : day < day_number y m 1 + days_in_month (pos y) m = elim (cases_lt m 12) [
      | inl a ↦
          let after = not_begun (day_number y (m + 1) 1) day (found.3 (m + 1) (omega arith) (omega (arith, a))) in
          omega (arith, after, day_count-next_month (pos y) m found.0, day_count-first y m 1 year.0 (omega arith))
      | inr a ↦
          let same : m ≡ 12 = omega (arith, a, found.1) in
          let e : day_number y m 1 + days_in_month (pos y) m ≡ day_number y 12 1 + days_in_month (pos y) 12 = ap (λ k. day_number y k 1 + days_in_month (pos y) k) same in
          omega (arith, e, december y year.0, year)
    ] in
    (found.0, found.1, begun (day_number y m 1) day found.2, next)

-- each number is that of its date
pub date_holds : (day : ℕ) → IsDay day → IsYearMonthDay (year_of day) (month_of day) (month_day_of day) × (day ≡ day_number (year_of day) (month_of day) (month_day_of day))
unfolding month_day_of
date_holds day h =
    let y = year_of day in
    let m = month_of day in
    let year = year_holds day h in
    let month = month_holds day h in
    let d = day - day_number y m 1 + 1 in
    let real : IsYearMonthDay y m d = ((year.0, year.1), (month.0, month.1), (omega arith, omega (arith, month))) in
    (real, omega (arith, place y m d real, month))

-- and each date has a number
pub number_holds : (y m d : ℕ) → IsYearMonthDay y m d → IsDay (day_number y m d)
number_holds y m d h =
    let low = day_count-first y m d h.0.0 h.2.0 in
    let high = day_count-lt_year (pos y) m d (pos 10000) 1 1 (civil_of y m d h) (omega arith) (omega (arith, signed_arith, h.0)) in
    (omega (arith, low), omega (arith, low, high, day_count-end))
