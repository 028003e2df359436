-- Week dates of jiff and the numbers of days.
use Rattle.std.proofs.Common.{◌≡◌, ℕ, ◌<◌, ◌≤◌, ◌+◌, ◌-◌, ◌*◌, ℤ, pos, neg_ℤ, ◌+ℤ◌, ◌≤ℤ◌, ◌<ℤ◌, unsigned_abs, FitsSigned, w16, to_z, of_z, subst, refl, sym, ◌∙◌, ap, arith}
use Rattle.std.proofs.lemmas.Int.{by_lt_z, to_z-of_z}
use Rattle.jiff_core.specs.Calendar.{iso_year_start, IsBetween, IsYear}
use Rattle.jiff_core.specs.Date.{epoch_day}
use Rattle.jiff_core.specs.IsoWeek.{days_from_iso, weeks_in_year}
use Rattle.jiff_core.specs.IsoWeekDate.{iso_epoch_day}
use Rattle.jiff_core.specs.Weekday.{monday_zero}
use Rattle.jiff_core.specs.declared.civil.date.Date.{Date}
use Rattle.jiff_core.specs.declared.civil.iso_week_date.ISOWeekDate.{ISOWeekDate}
use Rattle.jiff_core.specs.declared.civil.weekday.Weekday.{Weekday}
use Rattle.jiff_core.specs.declared.civil.weekday.Weekday.TheVariants.{Monday, Tuesday, Wednesday, Thursday, Friday, Saturday, Sunday}
use Rattle.jiff_core.proofs.SignedLemmas.{signed_arith}
use Rattle.jiff_core.proofs.CalendarLemmas.{days_from_civil-day_count, day_count-later_year, days_in_year_bounds}
use Rattle.jiff_core.proofs.IsoWeekLemmas.{day_count-fourth, iso_year_start-day_count, iso_year_start_near, weeks_in_year-next}
use Rattle.org_cal.specs.Days.{day_number}
use Rattle.org_cal.specs.Parts.{weekday_of}
use Rattle.org_cal.specs.Weeks.{monday_of, iso_year, iso_week}
use Rattle.org_cal.proofs.DayLemmas.{first_day, day_count-first, natural}
use Rattle.org_cal.proofs.PartLemmas.{year_is}

below_seven : (w : Weekday) → monday_zero w < 7
below_seven Monday = omega arith
below_seven Tuesday = omega arith
below_seven Wednesday = omega arith
below_seven Thursday = omega arith
below_seven Friday = omega arith
below_seven Saturday = omega arith
below_seven Sunday = omega arith

-- an ISO year begins on a Monday
start_is_monday : (y : ℤ) (n : ℕ) → IsBetween (neg_ℤ (pos 9999)) (pos 10000) y → iso_year_start y +ℤ pos 719_163 ≡ pos n → 1 ≤ n → weekday_of n ≡ 0
start_is_monday y n h e first =
    omega (arith, signed_arith, iso_year_start-day_count y h, day_count-fourth y h)

-- the year 1 begins on a Monday
first_start : iso_year_start (pos 1) +ℤ pos 719_163 ≡ pos 1
first_start =
    let h : IsBetween (neg_ℤ (pos 9999)) (pos 10000) (pos 1) = (omega (arith, signed_arith), omega (arith, signed_arith)) in
    omega (arith, signed_arith, iso_year_start-day_count (pos 1) h, day_count-fourth (pos 1) h, first_day)

-- no ISO year before the year 1 holds a day
from_one : (y : ℤ) (n : ℕ) → IsYear y → 1 ≤ n → (pos n) <ℤ (iso_year_start (y +ℤ pos 1) +ℤ pos 719_163) → pos 1 ≤ℤ y
from_one y n in_years one before =
    by_lt_z y (pos 1)
    (λ early. by_lt_z y (pos 0)
    (λ sooner. let h : IsBetween (neg_ℤ (pos 9999)) (pos 10000) (y +ℤ pos 1) = (omega (arith, signed_arith), omega (arith, signed_arith)) in
    let near = iso_year_start_near (y +ℤ pos 1) h in
    let count = days_from_civil-day_count (y +ℤ pos 1) 1 1 in
    let more = day_count-later_year (y +ℤ pos 1) (pos 1) (omega (arith, signed_arith)) (omega (arith, signed_arith)) in
    let long = days_in_year_bounds (y +ℤ pos 1) in
    absurd (omega (arith, signed_arith, near, count, more, long, first_day)))
    (λ zeroth. let same : y +ℤ pos 1 ≡ pos 1 = omega (arith, signed_arith) in
    absurd (omega (arith, signed_arith, ap iso_year_start same, first_start))))
    (λ ge. ge)

-- the number of a week date, from the start of its ISO year
week_at : (found : ISOWeekDate) (date : Date) (n : ℕ) → iso_epoch_day found ≡ epoch_day date → epoch_day date +ℤ pos 719_163 ≡ pos n → iso_year_start found.year +ℤ pos (719_163 + (found.week - 1) * 7 + monday_zero found.weekday) ≡ pos n
unfolding days_from_iso
week_at found date n same number =
    let day : iso_year_start found.year +ℤ pos ((found.week - 1) * 7 + monday_zero found.weekday) ≡ epoch_day date = same in
    omega (arith, signed_arith, day, number)

-- the year and week that jiff finds are those of the week's Thursday
week_is : (y week k n : ℕ) → 1 ≤ y → y ≤ 9999 → 1 ≤ n → 1 ≤ week → week ≤ weeks_in_year (pos y) → k < 7 → iso_year_start (pos y) +ℤ pos (719_163 + (week - 1) * 7 + k) ≡ pos n → (iso_year n ≡ y) × (iso_week n ≡ week) × (week ≤ 53)
week_is y week k n one last from first within below e =
    let years : IsYear (pos y) = (omega (arith, signed_arith), omega (arith, signed_arith)) in
    let here : IsBetween (neg_ℤ (pos 9999)) (pos 10000) (pos y) = (omega (arith, signed_arith), omega (arith, signed_arith)) in
    let there : IsBetween (neg_ℤ (pos 9999)) (pos 10000) (pos (y + 1)) = (omega (arith, signed_arith), omega (arith, signed_arith)) in
    let near = iso_year_start_near (pos y) here in
    let next = iso_year_start_near (pos (y + 1)) there in
    let weeks = weeks_in_year-next (pos y) (pos (y + 1)) years (omega (arith, signed_arith)) in
    let count = days_from_civil-day_count (pos y) 1 1 in
    let count_next = days_from_civil-day_count (pos (y + 1)) 1 1 in
    let low = day_count-first y 1 1 one (omega arith) in
    let low_next = day_count-first (y + 1) 1 1 (omega arith) (omega arith) in
    let start = iso_year_start-day_count (pos y) here in
    let fourth = day_count-fourth (pos y) here in
    let place : weekday_of n ≡ k = omega (arith, signed_arith, e, start, fourth, below, from) in
    let thursday : iso_year_start (pos y) +ℤ pos (719_163 + (week - 1) * 7 + 3) ≡ pos (monday_of n + 3) = omega (arith, signed_arith, e, place) in
    let year : iso_year n ≡ y = year_is y (monday_of n + 3) one last (omega (arith, signed_arith, thursday, near, count, low)) (omega (arith, signed_arith, thursday, weeks, next, count_next, low_next, within)) in
    let begin : day_number (iso_year n) 1 1 ≡ day_number y 1 1 = ap (λ z. day_number z 1 1) year in
    (year, omega (arith, signed_arith, begin, thursday, near, count, low, first), omega (arith, within, weeks))

-- what jiff finds, with the year as the code reads it
pub found_week : (found : ISOWeekDate) (date : Date) (n year : ℕ) → iso_epoch_day found ≡ epoch_day date → epoch_day date +ℤ pos 719_163 ≡ pos n → 1 ≤ n → year ≡ unsigned_abs (to_z w16 (of_z w16 found.year)) → (year ≡ iso_year n) × (found.week ≡ iso_week n) × (found.week ≤ 53)
found_week found date n year same number first read =
    let e = week_at found date n same number in
    let below = below_seven found.weekday in
    let weeks = weeks_in_year-next found.year (found.year +ℤ pos 1) found.year_in refl in
    let later : pos 1 ≤ℤ found.year = from_one found.year n found.year_in first (omega (arith, signed_arith, e, below, weeks, found.week_in)) in
    let fits : FitsSigned w16 found.year = omega (arith, signed_arith, found.year_in) in
    let is : found.year ≡ pos year = natural found.year later ∙ ap pos (sym (simp to_z-of_z at read)) in
    let within : found.week ≤ weeks_in_year (pos year) = subst (λ z. found.week ≤ weeks_in_year z) is found.week_in.1 in
    let start = subst (λ z. iso_year_start z +ℤ pos (719_163 + (found.week - 1) * 7 + monday_zero found.weekday) ≡ pos n) is e in
    let all = week_is year found.week (monday_zero found.weekday) n (omega (arith, signed_arith, is, later)) (omega (arith, signed_arith, is, found.year_in)) first found.week_in.0 within below start in
    (sym all.0, sym all.1, all.2)
