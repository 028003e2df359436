-- Dates of jiff and the numbers of days.
use Rattle.std.proofs.Common.{◌≡◌, ℕ, ◌+◌, ◌≤◌, refl, sym, subst, ◌∙◌, ap, arith, ℤ, pos, negsuc, ◌+ℤ◌, ◌≤ℤ◌, unsigned_abs, FitsSigned, w16, to_z, of_z}
use Rattle.std.proofs.lemmas.Int.{by_lt_z, to_z-of_z}
use Rattle.jiff_core.specs.declared.civil.date.Date.{Date}
use Rattle.jiff_core.specs.Calendar.{day_count, days_in_month}
use Rattle.jiff_core.specs.Date.{epoch_day}
use Rattle.jiff_core.proofs.SignedLemmas.{signed_arith}
use Rattle.jiff_core.proofs.CalendarLemmas.{day_count-later_year, day_count-day_of_year, day_count-lt_year, days_from_civil-day_count}
use Rattle.jiff_core.proofs.MarchLemmas.{day_count-early}
use Rattle.jiff_core.proofs.DateLemmas.{civil, epoch_day_injective}
use Rattle.org_cal.specs.Days.{IsYearMonthDay, day_number}

pub first_day : day_count (pos 1) 1 1 ≡ 3_652_791
first_day = day_count-early (pos 1) 10000 1 1 refl (omega arith) (omega arith) (omega arith)

-- no day of the year 1 or a later one comes before the first
pub day_count-first : (y m d : ℕ) → 1 ≤ y → 1 ≤ d → 3_652_791 ≤ day_count (pos y) m d
day_count-first y m d late first =
    let in_year = day_count-day_of_year (pos y) m d first in
    by_lt_z (pos 1) (pos y)
    (λ later. omega (arith, first_day, in_year, day_count-later_year (pos 1) (pos y) (omega (arith, signed_arith)) later))
    (λ ge. let same : y ≡ 1 = omega (arith, signed_arith) in
    let e : day_count (pos y) 1 1 ≡ 3_652_791 = rw same first_day in
    omega (arith, e, in_year))

-- a number and the count of days
pub number-day_count : (d : Date) (n : ℕ) → epoch_day d +ℤ pos 719_163 ≡ pos n → n + 3_652_790 ≡ day_count d.year d.month d.day
number-day_count d n e = omega (arith, signed_arith, days_from_civil-day_count d.year d.month d.day)

-- a date with a number from 1 on has a year from 1 on
pub year_of_number : (d : Date) (n : ℕ) → epoch_day d +ℤ pos 719_163 ≡ pos n → 1 ≤ n → pos 1 ≤ℤ d.year
year_of_number d n e first =
    by_lt_z d.year (pos 1)
    (λ early. absurd (omega (arith, first_day, number-day_count d n e, day_count-lt_year d.year d.month d.day (pos 1) 1 1 (civil d) (omega arith) early)))
    (λ ge. ge)

-- the number of a date
pub number_is : (d : Date) (y n : ℕ) → epoch_day d +ℤ pos 719_163 ≡ pos n → d.year ≡ pos y → n ≡ day_number y d.month d.day
number_is d y n e year = omega (arith, number-day_count d n e, ap (λ z. day_count z d.month d.day) year)

-- the date of parts
pub date_of : (y m d : ℕ) → IsYearMonthDay y m d → Date
date_of y m d h = record { year = pos y; month = m; day = d; year_in = (omega (arith, signed_arith, h.0), omega (arith, signed_arith, h.0)); month_in = h.1; day_in = h.2 }

-- the year of a date with a number, as a natural
pub natural : (z : ℤ) → pos 1 ≤ℤ z → z ≡ pos (unsigned_abs z)
natural (pos n) h = refl
natural (negsuc n) h = absurd (omega (arith, signed_arith))

-- the parts with a number are those of its date
pub parts_only : (d : Date) (n y m day : ℕ) → epoch_day d +ℤ pos 719_163 ≡ pos n → IsYearMonthDay y m day → n ≡ day_number y m day → (d.year ≡ pos y) × (d.month ≡ m) × (d.day ≡ day)
unfolding date_of
parts_only d n y m day e h is =
    let first = day_count-first y m day h.0.0 h.2.0 in
    let same : epoch_day d ≡ epoch_day (date_of y m day h) = omega (arith, signed_arith, days_from_civil-day_count (pos y) m day) in
    epoch_day_injective d (date_of y m day h) same

-- the year of a date, as the code reads it
pub year_read : (d : Date) (n : ℕ) → pos 1 ≤ℤ d.year → n ≡ unsigned_abs (to_z w16 (of_z w16 d.year)) → d.year ≡ pos n
year_read d n h e =
    let fits : FitsSigned w16 d.year = omega (arith, signed_arith, d.year_in) in
    natural d.year h ∙ ap pos (sym (simp to_z-of_z at e))

-- the parts of a date from the year 1 on are a day of the calendar
pub parts_real : (d : Date) (n : ℕ) → d.year ≡ pos n → pos 1 ≤ℤ d.year → IsYearMonthDay n d.month d.day
parts_real d n is first =
    ((omega (arith, signed_arith, is, first), omega (arith, signed_arith, is, d.year_in)), d.month_in, (d.day_in.0, subst (λ z. d.day ≤ days_in_month z d.month) is d.day_in.1))

-- the number of parts, from a date that has them
pub of_number : (date : Date) (y m d n : ℕ) → epoch_day date +ℤ pos 719_163 ≡ pos n → date.year ≡ pos y → date.month ≡ m → date.day ≡ d → n ≡ day_number y m d
of_number date y m d n e year month day =
    number_is date y n e year ∙ (ap (λ k. day_number y k date.day) month ∙ ap (λ k. day_number y m k) day)

-- the parts of a date with a number from 1 on are a day of the calendar
pub of_parts : (date : Date) (y m d n : ℕ) → epoch_day date +ℤ pos 719_163 ≡ pos n → date.year ≡ pos y → date.month ≡ m → date.day ≡ d → 1 ≤ n → IsYearMonthDay y m d
of_parts date y m d n e year month day first =
    let from_one = year_of_number date n e first in
    subst (λ k. IsYearMonthDay y k d) month (subst (λ k. IsYearMonthDay y date.month k) day (parts_real date y year from_one))

-- a date from the year 1 on has a number
pub from_first : (date : Date) (y : ℕ) → date.year ≡ pos y → 1 ≤ y → pos 1 ≤ℤ (epoch_day date +ℤ pos 719_163)
from_first date y year first =
    let count = days_from_civil-day_count date.year date.month date.day in
    let low : 3_652_791 ≤ day_count date.year date.month date.day =
    subst (λ z. 3_652_791 ≤ day_count z date.month date.day) (sym year) (day_count-first y date.month date.day first date.day_in.0) in
    omega (arith, signed_arith)
