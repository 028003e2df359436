-- Blocks of time (Org manual 9.6, "The clock table"; weeks by ISO 8601). The years 1 to 9999 are the profile's.
-- Characters by their codes: 45 -, 48 0.
use Rattle.std.specs.Prelude.{ℕ, ◌+◌, ◌-◌, ◌*◌, ◌&&◌, ◌==◌, nat_le, if◌then◌else◌, List, [], ◌∷◌, Option, Some, None, codes}
use Rattle.std.specs.Str.{bytes_eq}
use Rattle.std.specs.Option.{option_and_then}
use Rattle.org_cal.specs.Added.{month_index, day_of_month}
use Rattle.org_cal.specs.Parts.{year_of, month_of}
use Rattle.org_cal.specs.Texts.{two_digits, four_digits, day_of, date_of}
use Rattle.org_cal.specs.Weeks.{monday_of, iso_year, iso_week}
use Rattle.org_cal.specs.declared.day.TheConstants.{LAST_DAY, LAST_MONTH}

-- a first and a last day
abbrev pub Days : Type 0
Days = ℕ × ℕ

-- the days of so many months, from the one with this number on; none where they leave the years 1 to 9999
abbrev pub months_from : ℕ → ℕ → Option Days
months_from index count =
    if nat_le 12 index && nat_le (index + count) (LAST_MONTH + 1)
    then Some (day_of_month index 1, day_of_month (index + count - 1) 31) else None

-- the number of a day's month
abbrev pub this_month : ℕ → ℕ
this_month day = month_index (year_of day) (month_of day)

-- the days of a year
abbrev pub year_block : ℕ → Option Days
year_block y = months_from (12 * y) 12

-- the days of month m of a year
abbrev pub month_block : ℕ → ℕ → Option Days
month_block y m = if nat_le 1 m && nat_le m 12 then months_from (month_index y m) 1 else None

-- the days of quarter q of a year, which has three months
abbrev pub quarter_block : ℕ → ℕ → Option Days
quarter_block y q = if nat_le 1 q && nat_le q 4 then months_from (12 * y + 3 * (q - 1)) 3 else None

-- the seven days from a Monday on; none where they leave the years 1 to 9999
abbrev pub week_from : ℕ → Option Days
week_from monday = if nat_le 1 monday && nat_le (monday + 6) LAST_DAY then Some (monday, monday + 6) else None

-- the seven days from a Monday on, if they are week w of the year
abbrev pub week_called : ℕ → ℕ → ℕ → Option Days
week_called y w monday = if (iso_year monday == y) && (iso_week monday == w) then week_from monday else None

-- the days of week w of a year, counted from the week of 4 January, which is the year's first
abbrev pub week_block : ℕ → ℕ → Option Days
week_block y w = option_and_then (λ fourth. week_called y w (monday_of fourth + 7 * (w - 1))) (day_of y 1 4)

-- a day as a block, if it is one of the years 1 to 9999
abbrev pub day_block : ℕ → Option Days
day_block day = if nat_le 1 day && nat_le day LAST_DAY then Some (day, day) else None

-- the days of YYYY-MM or of YYYY-Q1 to YYYY-Q4, by the year and the two bytes after the dash
abbrev pub part_of_year : ℕ → ℕ → ℕ → Option Days
part_of_year y m n =
    if m == 81 then option_and_then (quarter_block y) (two_digits 48 n)
    else option_and_then (month_block y) (two_digits m n)

-- the days of a block that is written as YYYY, YYYY-MM, YYYY-Qn, YYYY-Www or YYYY-MM-DD
abbrev pub dated_block : List ℕ → Option Days
dated_block (a ∷ b ∷ c ∷ d ∷ []) = option_and_then year_block (four_digits a b c d)
dated_block (a ∷ b ∷ c ∷ d ∷ dash ∷ m ∷ n ∷ []) =
    if dash == 45 then option_and_then (λ y. part_of_year y m n) (four_digits a b c d) else None
dated_block (a ∷ b ∷ c ∷ d ∷ dash ∷ w ∷ m ∷ n ∷ []) =
    if (dash == 45) && (w == 87)
    then option_and_then (λ y. option_and_then (week_block y) (two_digits m n)) (four_digits a b c d) else None
dated_block text = option_and_then day_block (date_of text)

-- the days of the block that a text names when asked on a day; none where there is no such block
abbrev pub block_of : List ℕ → ℕ → Option Days
block_of text today =
    if bytes_eq text (codes "today") then day_block today
    else (if bytes_eq text (codes "yesterday") then day_block (today - 1)
    else (if bytes_eq text (codes "thisweek") then week_from (monday_of today)
    else (if bytes_eq text (codes "lastweek") then week_from (monday_of today - 7)
    else (if bytes_eq text (codes "thismonth") then months_from (this_month today) 1
    else (if bytes_eq text (codes "lastmonth") then months_from (this_month today - 1) 1
    else (if bytes_eq text (codes "thisyear") then year_block (year_of today)
    else (if bytes_eq text (codes "lastyear") then year_block (year_of today - 1)
    else dated_block text)))))))
