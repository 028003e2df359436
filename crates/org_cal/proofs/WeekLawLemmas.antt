-- The weeks of the definitions are those of ISO 8601.
use Rattle.std.proofs.Common.{◌≡◌, ℕ, ◌+◌, ◌-◌, ◌/◌, ◌<◌, ◌≤◌, inl, inr, ap, arith, pos}
use Rattle.std.proofs.lemmas.Bool.{cases_lt}
use Rattle.std.specs.Int.{IsInRange}
use Rattle.jiff_core.proofs.SignedLemmas.{signed_arith}
use Rattle.jiff_core.proofs.CalendarLemmas.{day_count-day, day_count-later_year, days_in_year_bounds}
use Rattle.org_cal.specs.Days.{IsDay, day_number}
use Rattle.org_cal.specs.Laws.{AreOfOneWeek, WeeksHaveMondays, WeeksHaveSevenDays, FirstWeekHasFourth, FirstWeekHasThursday, WeeksGoOn}
use Rattle.org_cal.specs.Parts.{year_of}
use Rattle.org_cal.specs.Weeks.{monday_of, iso_year, iso_week}
use Rattle.org_cal.proofs.DayLemmas.{day_count-first}
use Rattle.org_cal.proofs.PartLemmas.{after_all, year_holds, year_is}

-- the week's Thursday lies in its year
pub thursday_in : (day : ℕ) → IsDay day → (1 ≤ iso_year day) × (iso_year day ≤ 9999) × (day_number (iso_year day) 1 1 ≤ monday_of day + 3) × (monday_of day + 3 < day_number (iso_year day + 1) 1 1)
thursday_in day h = year_holds (monday_of day + 3) (omega (arith, h), omega (arith, h))

mondays : (a b : ℕ) → IsDay a → IsDay b → AreOfOneWeek a b → monday_of a ≡ monday_of b
mondays a b ha hb same =
    let first : day_number (iso_year a) 1 1 ≡ day_number (iso_year b) 1 1 = ap (λ y. day_number y 1 1) same.0 in
    omega (arith, first, same.1, thursday_in a ha, thursday_in b hb, ha, hb)

one_week : (a b : ℕ) → monday_of a ≡ monday_of b → AreOfOneWeek a b
one_week a b same =
    (ap (λ m. year_of (m + 3)) same, ap (λ m. (m + 3 - day_number (year_of (m + 3)) 1 1) / 7 + 1) same)

pub weeks_have_mondays : WeeksHaveMondays
weeks_have_mondays a b ha hb = (mondays a b ha hb, one_week a b)

pub weeks_have_seven_days : WeeksHaveSevenDays
weeks_have_seven_days monday day one begins h = (
  λ same. let e = mondays monday day one h same in (omega (arith, e, begins, h), omega (arith, e, begins, h)),
  λ within. one_week monday day (omega (arith, begins, within, one)),
)

-- a week whose Thursday lies in a year is that year's, and counted by the Thursdays
week_by_thursday : (y day : ℕ) → IsInRange 1 9999 y → day_number y 1 1 ≤ monday_of day + 3 → monday_of day + 3 < day_number (y + 1) 1 1 → (iso_year day ≡ y) × (iso_week day ≡ (monday_of day + 3 - day_number y 1 1) / 7 + 1)
week_by_thursday y day h from before =
    let year = year_is y (monday_of day + 3) h.0 h.1 from before in
    (year, ap (λ k. (monday_of day + 3 - day_number k 1 1) / 7 + 1) year)

-- the next year begins a year's days later
next_start : (y : ℕ) → 1 ≤ y → day_number y 1 1 + 365 ≤ day_number (y + 1) 1 1
next_start y one =
    let more = day_count-later_year (pos y) (pos (y + 1)) (omega (arith, signed_arith)) (omega (arith, signed_arith)) in
    omega (arith, more, days_in_year_bounds (pos y), day_count-first y 1 1 one (omega arith))

pub first_week_has_fourth : FirstWeekHasFourth
first_week_has_fourth y h =
    let fourth = day_number y 1 4 in
    let first = day_count-first y 1 1 h.0 (omega arith) in
    let place = day_count-day (pos y) 1 4 1 (omega arith) (omega arith) in
    let week = week_by_thursday y fourth h (omega (arith, first, place)) (omega (arith, first, place, next_start y h.0)) in
    (week.0, omega (arith, week.1, first, place))

pub first_week_has_thursday : FirstWeekHasThursday
first_week_has_thursday y thursday h name from before =
    let first = day_count-first y 1 1 h.0 (omega arith) in
    let week = week_by_thursday y thursday h (omega (arith, first, name, from)) (omega (arith, name, before, next_start y h.0)) in
    (week.0, omega (arith, week.1, first, name, from, before))

pub weeks_go_on : WeeksGoOn
weeks_go_on day h later =
    let y = iso_year day in
    let here = thursday_in day h in
    elim (cases_lt (monday_of day + 10) (day_number (y + 1) 1 1)) [
      | inl a ↦
          let week = week_by_thursday y (day + 7) (here.0, here.1) (omega (arith, here, h)) (omega (arith, a, h)) in
          inl (week.0, omega (arith, week.1, here, h))
      | inr a ↦
          let last : y < 9999 = elim (cases_lt y 9999) [
            | inl b ↦ b
            | inr b ↦
                let start : day_number (y + 1) 1 1 ≡ day_number 10000 1 1 = ap (λ k. day_number k 1 1) (omega (arith, b, here)) in
                absurd (omega (arith, start, after_all, a, later))
          ] in
          let long = next_start (y + 1) (omega arith) in
          let week = week_by_thursday (y + 1) (day + 7) (omega arith, omega (arith, last)) (omega (arith, a, h)) (omega (arith, here, long, h)) in
          inr (week.0, omega (arith, week.1, here, a, h))
    ]
