-- The date of a day as functions of its number (Gregorian calendar).
use Rattle.std.specs.Prelude.{ℕ, zero, suc, ◌+◌, ◌-◌, ◌%◌, Bool, nat_le, if◌then◌else◌}
use Rattle.org_cal.specs.Days.{day_number}

-- the greatest number from 1 to a bound that passes a test, or 0
unfoldable pub greatest : (ℕ → Bool) → ℕ → ℕ
greatest passes zero = 0
greatest passes (suc n) = if passes (suc n) then suc n else greatest passes n

-- the year of a day: the last one that has begun by then
unfoldable pub year_of : ℕ → ℕ
year_of day = greatest (λ y. nat_le (day_number y 1 1) day) 9999

-- the month of a day: the last one of its year that has begun by then
unfoldable pub month_of : ℕ → ℕ
month_of day = greatest (λ m. nat_le (day_number (year_of day) m 1) day) 12

-- the day's place in its month, from 1
unfoldable pub month_day_of : ℕ → ℕ
month_day_of day = day - day_number (year_of day) (month_of day) 1 + 1

-- the day's place in its week, 0 for Monday; day 1 is a Monday
abbrev pub weekday_of : ℕ → ℕ
weekday_of day = (day + 6) % 7
