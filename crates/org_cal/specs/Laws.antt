-- Laws of days, weeks and blocks of time (Gregorian calendar; ISO 8601, week dates; Org manual 9.6, "The clock table").
use Rattle.std.specs.Prelude.{◌≡◌, ◌↔◌, ◌⊎◌, ℕ, ◌+◌, ◌<◌, ◌≤◌, List, Some}
use Rattle.std.specs.Int.{IsInRange}
use Rattle.org_cal.specs.Blocks.{block_of}
use Rattle.org_cal.specs.Days.{IsDay, IsYearMonthDay, day_number}
use Rattle.org_cal.specs.Named.{Block, Names, HasDays}
use Rattle.org_cal.specs.Parts.{year_of, month_of, month_day_of, weekday_of}
use Rattle.org_cal.specs.Weeks.{monday_of, iso_year, iso_week}

-- each number is that of one date, the day's year, month and day of the month
abbrev pub NumbersHaveDates : Type 0
NumbersHaveDates = (day : ℕ) → IsDay day →
    IsYearMonthDay (year_of day) (month_of day) (month_day_of day)
    × (day ≡ day_number (year_of day) (month_of day) (month_day_of day))

-- each date has a number, and is the one that belongs to it
abbrev pub DatesHaveNumbers : Type 0
DatesHaveNumbers = (y m d : ℕ) → IsYearMonthDay y m d →
    IsDay (day_number y m d)
    × (year_of (day_number y m d) ≡ y) × (month_of (day_number y m d) ≡ m) × (month_day_of (day_number y m d) ≡ d)

-- two days have one year and number of the week
abbrev pub AreOfOneWeek : ℕ → ℕ → Type 0
AreOfOneWeek a b = (iso_year a ≡ iso_year b) × (iso_week a ≡ iso_week b)

-- two days lie in one week exactly where they have the same Monday
abbrev pub WeeksHaveMondays : Type 0
WeeksHaveMondays = (a b : ℕ) → IsDay a → IsDay b → AreOfOneWeek a b ↔ (monday_of a ≡ monday_of b)

-- the week of a Monday begins there and has seven days
abbrev pub WeeksHaveSevenDays : Type 0
WeeksHaveSevenDays = (monday day : ℕ) → IsDay monday → weekday_of monday ≡ 0 → IsDay day →
    AreOfOneWeek monday day ↔ ((monday ≤ day) × (day ≤ monday + 6))

-- the first week of a year is that of 4 January
abbrev pub FirstWeekHasFourth : Type 0
FirstWeekHasFourth = (y : ℕ) → IsInRange 1 9999 y →
    (iso_year (day_number y 1 4) ≡ y) × (iso_week (day_number y 1 4) ≡ 1)

-- the first week of a year is that of the year's first Thursday
abbrev pub FirstWeekHasThursday : Type 0
FirstWeekHasThursday = (y thursday : ℕ) → IsInRange 1 9999 y → weekday_of thursday ≡ 3 →
    day_number y 1 1 ≤ thursday → thursday < day_number y 1 1 + 7 →
    (iso_year thursday ≡ y) × (iso_week thursday ≡ 1)

-- seven days on, the week is the year's next one, or the first of the next year
abbrev pub WeeksGoOn : Type 0
WeeksGoOn = (day : ℕ) → IsDay day → IsDay (day + 7) →
    ((iso_year (day + 7) ≡ iso_year day) × (iso_week (day + 7) ≡ iso_week day + 1))
    ⊎ ((iso_year (day + 7) ≡ iso_year day + 1) × (iso_week (day + 7) ≡ 1))

-- a text gives days exactly where it names a block that has them: those, and no others, lie there
abbrev pub BlocksAreNamed : Type 0
BlocksAreNamed = (text : List ℕ) (today first last : ℕ) → IsDay today →
    (block_of text today ≡ Some (first, last)) ↔ ((block : Block) × Names text today block × HasDays block first last)
