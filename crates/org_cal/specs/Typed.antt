-- Days and periods as people type them. A weekday is today or the first such day after it, as Emacs' date prompt has it (Org
-- manual 9.6, "The date/time prompt"); the blocks of time are those of clock tables, and the ones after this one.
-- Characters by their codes: 43 +, 45 -, 46 ., 48 0, 100 d, 109 m, 119 w, 121 y.
use Rattle.std.specs.Prelude.{ℕ, ◌+◌, ◌-◌, ◌*◌, ◌%◌, Bool, ◌&&◌, ◌||◌, ◌==◌, nat_le, if◌then◌else◌, List, [], ◌∷◌, Option, Some, None, codes, take, drop}
use Rattle.std.specs.List.{prefix_len}
use Rattle.std.specs.Option.{option_and_then, option_map, option_or}
use Rattle.org_base.specs.Words.{is_letter, same_word, trimmed}
use Rattle.org_cal.specs.Added.{day_of_month}
use Rattle.org_cal.specs.Blocks.{Days, block_of, this_month}
use Rattle.org_cal.specs.Parts.{month_day_of, weekday_of, year_of}
use Rattle.org_cal.specs.Texts.{two_digits, four_digits, date_of, day_of}
use Rattle.org_cal.specs.declared.day.TheConstants.{LAST_DAY, LAST_MONTH}
use Rattle.org_cal.specs.declared.unit.Unit.{Unit}
use Rattle.org_cal.specs.declared.unit.Unit.TheVariants.{Hour, Day, Week, Month, Year}

-- a number, if it is that of a day of the years 1 to 9999
abbrev pub in_calendar : ℕ → Option ℕ
in_calendar n = if nat_le 1 n && nat_le n LAST_DAY then Some n else None

-- that day of a month of these years, counted from January of the year 0, or its last day where it is shorter
abbrev pub in_month : ℕ → ℕ → Option ℕ
in_month index date = if nat_le 12 index && nat_le index LAST_MONTH then Some (day_of_month index date) else None

-- so many units later
abbrev pub later : Unit → ℕ → ℕ → Option ℕ
later Hour n day = None
later Day n day = in_calendar (day + n)
later Week n day = in_calendar (day + 7 * n)
later Month n day = in_month (this_month day + n) (month_day_of day)
later Year n day = in_month (this_month day + 12 * n) (month_day_of day)

-- so many units earlier
abbrev pub earlier : Unit → ℕ → ℕ → Option ℕ
earlier Hour n day = None
earlier Day n day = in_calendar (day - n)
earlier Week n day = in_calendar (day - 7 * n)
earlier Month n day = in_month (this_month day - n) (month_day_of day)
earlier Year n day = in_month (this_month day - 12 * n) (month_day_of day)

-- the unit of a letter
abbrev pub unit_of : ℕ → Option Unit
unit_of letter =
    if letter == 100 then Some Day
    else (if letter == 119 then Some Week
    else (if letter == 109 then Some Month
    else (if letter == 121 then Some Year else None)))

-- later by a plus, earlier by a minus
abbrev pub signed_by : ℕ → Unit → ℕ → ℕ → Option ℕ
signed_by sign unit n day = if sign == 43 then later unit n day else (if sign == 45 then earlier unit n day else None)

-- a sign, a number if it is one, and a letter
abbrev pub signed_day : ℕ → Option ℕ → ℕ → ℕ → Option ℕ
signed_day sign number letter day =
    option_and_then (λ n. option_and_then (λ unit. signed_by sign unit n day) (unit_of letter)) number

-- such as +3d, -1w, +2m and -10y, with one to four digits
abbrev pub signed_text : List ℕ → ℕ → Option ℕ
signed_text (sign ∷ d ∷ letter ∷ []) day = signed_day sign (two_digits 48 d) letter day
signed_text (sign ∷ c ∷ d ∷ letter ∷ []) day = signed_day sign (two_digits c d) letter day
signed_text (sign ∷ b ∷ c ∷ d ∷ letter ∷ []) day = signed_day sign (four_digits 48 b c d) letter day
signed_text (sign ∷ a ∷ b ∷ c ∷ d ∷ letter ∷ []) day = signed_day sign (four_digits a b c d) letter day
signed_text text day = None

-- such as +3 and -10: days
abbrev pub signed_days : List ℕ → ℕ → Option ℕ
signed_days (sign ∷ d ∷ []) day = signed_day sign (two_digits 48 d) 100 day
signed_days (sign ∷ c ∷ d ∷ []) day = signed_day sign (two_digits c d) 100 day
signed_days (sign ∷ b ∷ c ∷ d ∷ []) day = signed_day sign (four_digits 48 b c d) 100 day
signed_days (sign ∷ a ∷ b ∷ c ∷ d ∷ []) day = signed_day sign (four_digits a b c d) 100 day
signed_days text day = None

-- a text is a name in letters of any case, in its short form or whole
abbrev pub is_called : List ℕ → List ℕ → List ℕ → Bool
is_called text short whole = same_word text short || same_word text whole

-- the day of the week that a word names, 0 for Monday
abbrev pub weekday_named : List ℕ → Option ℕ
weekday_named text =
    if is_called text (codes "mon") (codes "monday") then Some 0
    else (if is_called text (codes "tue") (codes "tuesday") then Some 1
    else (if is_called text (codes "wed") (codes "wednesday") then Some 2
    else (if is_called text (codes "thu") (codes "thursday") then Some 3
    else (if is_called text (codes "fri") (codes "friday") then Some 4
    else (if is_called text (codes "sat") (codes "saturday") then Some 5
    else (if is_called text (codes "sun") (codes "sunday") then Some 6 else None))))))

-- the first day of that weekday from a day on, which may be the day itself
abbrev pub weekday_from : ℕ → ℕ → ℕ
weekday_from day weekday = day + (weekday + 7 - weekday_of day) % 7

-- the first day from today on of the weekday that a word names
abbrev pub weekday_typed : List ℕ → ℕ → Option ℕ
weekday_typed text today = option_and_then (λ weekday. in_calendar (weekday_from today weekday)) (weekday_named text)

-- the last day of the block that a word names on a day
abbrev pub last_of : List ℕ → ℕ → Option ℕ
last_of word today = option_map (λ days. days.1) (block_of word today)

-- the last day of this week, month or year
abbrev pub end_typed : List ℕ → ℕ → Option ℕ
end_typed text today =
    if same_word text (codes "eow") then last_of (codes "thisweek") today
    else (if same_word text (codes "eom") then last_of (codes "thismonth") today
    else (if same_word text (codes "eoy") then last_of (codes "thisyear") today else None))

-- a day, where it isn't before another one
abbrev pub from_day : ℕ → Option ℕ → Option ℕ
from_day today day = option_and_then (λ d. if nat_le today d then Some d else None) day

-- this day of a month, from today on, in this year or the next one
abbrev pub year_day : ℕ → ℕ → ℕ → Option ℕ
year_day today month date =
    option_or (from_day today (day_of (year_of today) month date)) (day_of (year_of today + 1) month date)

-- the same where both are numbers
abbrev pub year_day_of : ℕ → Option ℕ → Option ℕ → Option ℕ
year_day_of today month date = option_and_then (λ m. option_and_then (λ d. year_day today m d) date) month

-- such as 24.12. and 1.2.: a day, a month, and a dot behind each
abbrev pub dotted_day : List ℕ → ℕ → Option ℕ
dotted_day (d ∷ x ∷ m ∷ y ∷ []) today =
    if x == 46 && y == 46 then year_day_of today (two_digits 48 m) (two_digits 48 d) else None
dotted_day (a ∷ b ∷ c ∷ e ∷ y ∷ []) today =
    if c == 46 && y == 46 then year_day_of today (two_digits 48 e) (two_digits a b)
    else (if b == 46 && y == 46 then year_day_of today (two_digits c e) (two_digits 48 a) else None)
dotted_day (c ∷ d ∷ x ∷ l ∷ m ∷ y ∷ []) today =
    if x == 46 && y == 46 then year_day_of today (two_digits l m) (two_digits c d) else None
dotted_day text today = None

-- the month of a name, 1 for January
abbrev pub month_named : List ℕ → Option ℕ
month_named text =
    if is_called text (codes "jan") (codes "january") then Some 1
    else (if is_called text (codes "feb") (codes "february") then Some 2
    else (if is_called text (codes "mar") (codes "march") then Some 3
    else (if is_called text (codes "apr") (codes "april") then Some 4
    else (if is_called text (codes "may") (codes "may") then Some 5
    else (if is_called text (codes "jun") (codes "june") then Some 6
    else (if is_called text (codes "jul") (codes "july") then Some 7
    else (if is_called text (codes "aug") (codes "august") then Some 8
    else (if is_called text (codes "sep") (codes "september") then Some 9
    else (if is_called text (codes "oct") (codes "october") then Some 10
    else (if is_called text (codes "nov") (codes "november") then Some 11
    else (if is_called text (codes "dec") (codes "december") then Some 12 else None)))))))))))

-- a day of a month in one or two digits
abbrev pub date_digits : List ℕ → Option ℕ
date_digits (d ∷ []) = two_digits 48 d
date_digits (c ∷ d ∷ []) = two_digits c d
date_digits text = None

-- such as dec 24: the name of a month, and a day of it
abbrev pub dated_month : List ℕ → ℕ → Option ℕ
dated_month text today =
    year_day_of today (month_named (take (prefix_len is_letter text) text))
    (date_digits (trimmed (drop (prefix_len is_letter text) text)))

-- a day of a year without its year
abbrev pub year_day_typed : List ℕ → ℕ → Option ℕ
year_day_typed text today = option_or (dotted_day text today) (dated_month text today)

-- the day that a text says, but for today, tomorrow and yesterday
abbrev pub other_day : List ℕ → ℕ → Option ℕ
other_day text today =
    option_or (option_or (option_or (option_or (option_or (weekday_typed text today)
    (date_of text)) (signed_text text today)) (signed_days text today))
    (end_typed text today)) (year_day_typed text today)

-- the day that a text says on a day, if it says one
abbrev pub typed_day : List ℕ → ℕ → Option ℕ
typed_day text today =
    if same_word text (codes "today") then Some today
    else (if same_word text (codes "tomorrow") then in_calendar (today + 1)
    else (if same_word text (codes "yesterday") then in_calendar (today - 1)
    else other_day text today))

-- the block that a word would name on the day after the block that it names
abbrev pub block_after : List ℕ → ℕ → Option Days
block_after word today =
    option_and_then (λ days. option_and_then (block_of word) (in_calendar (days.1 + 1))) (block_of word today)

-- the days of the block of time that a text names on a day
abbrev pub typed_block : List ℕ → ℕ → Option Days
typed_block text today =
    if same_word text (codes "nextweek") then block_after (codes "thisweek") today
    else (if same_word text (codes "nextmonth") then block_after (codes "thismonth") today
    else (if same_word text (codes "nextyear") then block_after (codes "thisyear") today
    else (if same_word text (codes "week") then block_of (codes "thisweek") today
    else (if same_word text (codes "month") then block_of (codes "thismonth") today
    else (if same_word text (codes "year") then block_of (codes "thisyear") today
    else block_of text today)))))

-- the days that a text says on a day: one day, or those of a block
abbrev pub typed_days : List ℕ → ℕ → Option Days
typed_days text today = option_or (option_map (λ day. (day, day)) (typed_day text today)) (typed_block text today)
