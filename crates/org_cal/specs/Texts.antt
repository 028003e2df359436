-- Times of day and days as texts, by cases on the bytes (Org manual 9.6, "Timestamps").
-- Characters by their codes: 45 -, 48 0, 58 :.
use Rattle.std.specs.Prelude.{ℕ, ◌+◌, ◌-◌, ◌*◌, ◌/◌, ◌%◌, ◌++◌, Bool, ◌&&◌, ◌==◌, nat_lt, nat_le, if◌then◌else◌, List, [], ◌∷◌, Option, Some, None, pos, get_or, take, drop, codes, ◌≡◌, ◌⊎◌}
use Rattle.std.specs.Option.{option_and_then, option_map}
use Rattle.std.specs.Char.{is_ascii_digit}
use Rattle.jiff_core.specs.Calendar.{days_in_month}
use Rattle.org_cal.specs.Days.{day_number}
use Rattle.org_cal.specs.Parts.{year_of, month_of, month_day_of}
use Rattle.org_cal.specs.declared.moment.Moment.{Moment}

-- the number that two digits spell
abbrev pub two_digits : ℕ → ℕ → Option ℕ
two_digits a b = if is_ascii_digit a && is_ascii_digit b then Some ((a - 48) * 10 + (b - 48)) else None

-- the number that four digits spell
abbrev pub four_digits : ℕ → ℕ → ℕ → ℕ → Option ℕ
four_digits a b c d = option_and_then (λ high. option_map (λ low. high * 100 + low) (two_digits c d)) (two_digits a b)

-- the minutes since 00:00 of an hour and a minute, if there is such a time
abbrev pub time_at : ℕ → ℕ → Option ℕ
time_at h m = if nat_lt h 24 && nat_lt m 60 then Some (h * 60 + m) else None

-- the time that two digits, a colon and two digits spell
abbrev pub hour_minute : ℕ → ℕ → ℕ → ℕ → ℕ → Option ℕ
hour_minute a b colon c d =
    if colon == 58 then option_and_then (λ h. option_and_then (time_at h) (two_digits c d)) (two_digits a b) else None

-- the time that a text spells as H:MM or HH:MM, in minutes since 00:00
abbrev pub time_of : List ℕ → Option ℕ
time_of (b ∷ colon ∷ c ∷ d ∷ []) = hour_minute 48 b colon c d
time_of (a ∷ b ∷ colon ∷ c ∷ d ∷ []) = hour_minute a b colon c d
time_of _ = None

-- the calendar has this day of the years 1 to 9999
abbrev pub is_year_month_day : ℕ → ℕ → ℕ → Bool
is_year_month_day y m d =
    nat_le 1 y && nat_le y 9999 && nat_le 1 m && nat_le m 12 && nat_le 1 d && nat_le d (days_in_month (pos y) m)

-- the number of the day with these parts, if there is one
abbrev pub day_of : ℕ → ℕ → ℕ → Option ℕ
day_of y m d = if is_year_month_day y m d then Some (day_number y m d) else None

-- the number of the day that a text spells as YYYY-MM-DD, if there is such a day
abbrev pub date_of : List ℕ → Option ℕ
date_of (a ∷ b ∷ c ∷ d ∷ x ∷ e ∷ f ∷ y ∷ g ∷ h ∷ []) =
    if x == 45 && y == 45 then
    option_and_then (λ year. option_and_then (λ month. option_and_then (day_of year month)
    (two_digits g h)) (two_digits e f)) (four_digits a b c d)
    else None
date_of _ = None

-- a number below 100 in two digits
abbrev pub two : ℕ → List ℕ
two n = (48 + n / 10) ∷ (48 + n % 10) ∷ []

-- a number below 10,000 in four digits
abbrev pub four : ℕ → List ℕ
four n = two (n / 100) ++ two (n % 100)

-- minutes since 00:00 as HH:MM
abbrev pub time_text : ℕ → List ℕ
time_text c = two (c / 60) ++ 58 ∷ two (c % 60)

-- a year, a month and a day of it as YYYY-MM-DD
abbrev pub parts_text : ℕ → ℕ → ℕ → List ℕ
parts_text y m d = four y ++ 45 ∷ two m ++ 45 ∷ two d

-- a day as YYYY-MM-DD
abbrev pub date_text : ℕ → List ℕ
date_text day = parts_text (year_of day) (month_of day) (month_day_of day)

-- the English name of a day of the week, 0 for Monday
abbrev pub day_name : ℕ → List ℕ
day_name n =
    if n == 0 then codes "Mon"
    else (if n == 1 then codes "Tue"
    else (if n == 2 then codes "Wed"
    else (if n == 3 then codes "Thu"
    else (if n == 4 then codes "Fri"
    else (if n == 5 then codes "Sat" else codes "Sun")))))

-- two texts spell the day and the time of a moment
abbrev pub IsMomentOf : List ℕ → List ℕ → Moment → Type 0
IsMomentOf date time moment = (date_of date ≡ Some moment.day) × (time_of time ≡ Some moment.minute)

-- one of two texts spells no day or no time
abbrev pub IsNoMoment : List ℕ → List ℕ → Type 0
IsNoMoment date time = (date_of date ≡ None) ⊎ (time_of time ≡ None)

-- a day and a time, if both are there
abbrev pub moment_with : Option ℕ → Option ℕ → Option Moment
moment_with None minute = None
moment_with (Some day) minute = option_map (λ at. record { day = day; minute = at }) minute

-- the moment that a text spells: a date, which has ten bytes, a space and a time
abbrev pub moment_of : List ℕ → Option Moment
moment_of text = if get_or text 10 0 == 32 then moment_with (date_of (take 10 text)) (time_of (drop 11 text)) else None
