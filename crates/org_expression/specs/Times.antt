-- Times that an expression compares with (Org manual 9.6, "Matching tags and properties"; their bounds are the
-- profile's).
-- Characters by their codes: 43 +, 45 -, 60 <, 62 >.
use Rattle.std.specs.Prelude.{ℕ, ◌+◌, ◌-◌, ◌*◌, Bool, true, false, ◌&&◌, ◌==◌, nat_le, if◌then◌else◌, List, [], ◌∷◌, length, drop, slice_index, Option, Some, None, bytes_eq, codes}
use Rattle.std.specs.Option.{option_map, option_or}
use Rattle.org_cal.specs.Added.{day_of_month}
use Rattle.org_cal.specs.Blocks.{this_month}
use Rattle.org_cal.specs.Minutes.{minute_of, minute_at}
use Rattle.org_cal.specs.Parts.{month_day_of}
use Rattle.org_cal.specs.declared.moment.Moment.{Moment}
use Rattle.org_cal.specs.declared.unit.Unit.{Unit}
use Rattle.org_cal.specs.declared.unit.Unit.TheVariants.{Hour, Day, Week, Month, Year}
use Rattle.org_cal.specs.declared.day.TheConstants.{LAST_DAY, LAST_MONTH}
use Rattle.org_stamp.specs.Read.{single_of, stamp_of}
use Rattle.org_stamp.specs.declared.stamp.Stamp.{Stamp}
use Rattle.org_expression.specs.Decimal.{front_digits, read_on}

-- a quoted text stands for a time: it begins with < and ends with >
abbrev pub is_time : List ℕ → Bool
is_time text = nat_le 2 (length text) && (slice_index text 0 == 60) && (slice_index text (length text - 1) == 62)

-- a number and n more, or n fewer; 0 where there are no n fewer
abbrev pub moved : Bool → ℕ → ℕ → ℕ
moved is_back n from = if is_back then from - n else from + n

-- the day, if it is one of the years 1 to 9999
abbrev pub day_if : ℕ → Option ℕ
day_if day = if nat_le 1 day && nat_le day LAST_DAY then Some day else None

-- the day d of the month with this number, or the month's last day where it is shorter; none outside the years 1 to 9999
abbrev pub in_month : ℕ → ℕ → Option ℕ
in_month d index = if nat_le 12 index && nat_le index LAST_MONTH then Some (day_of_month index d) else None

-- the day so many units after a day, or before it; a day that the month lacks becomes the month's last. Hours lead to no
-- day
abbrev pub day_moved : Bool → ℕ → Unit → ℕ → Option ℕ
day_moved is_back n Hour day = None
day_moved is_back n Day day = day_if (moved is_back n day)
day_moved is_back n Week day = day_if (moved is_back (7 * n) day)
day_moved is_back n Month day = in_month (month_day_of day) (moved is_back n (this_month day))
day_moved is_back n Year day = in_month (month_day_of day) (moved is_back (12 * n) (this_month day))

-- the unit of a letter: d, w, m or y
abbrev pub unit_of : ℕ → Option Unit
unit_of letter =
    if letter == 100 then Some Day
    else (if letter == 119 then Some Week
    else (if letter == 109 then Some Month
    else (if letter == 121 then Some Year else None)))

-- the unit of a letter that > follows, and nothing else
abbrev pub last_unit : List ℕ → Option Unit
last_unit (letter ∷ close ∷ []) = if close == 62 then unit_of letter else None
last_unit _ = None

-- the day so many units after today, or before it, by one to four digits
abbrev pub day_at : ℕ → Bool → List ℕ → Option Unit → Option ℕ
day_at today is_back digits None = None
day_at today is_back digits (Some unit) =
    if nat_le 1 (length digits) && nat_le (length digits) 4 then day_moved is_back (read_on 0 digits) unit today else None

-- the day that digits, the letter of a unit and > lead to from today
abbrev pub counted_day : ℕ → Bool → List ℕ → Option ℕ
counted_day today is_back bs = day_at today is_back (front_digits bs) (last_unit (drop (length (front_digits bs)) bs))

-- the day that a sign, digits, a unit and > lead to from today
abbrev pub relative_day : ℕ → List ℕ → Option ℕ
relative_day today [] = None
relative_day today (sign ∷ bs) =
    if sign == 43 then counted_day today false bs else (if sign == 45 then counted_day today true bs else None)

-- the day that a quoted text names: <today>, <tomorrow>, or a day counted from today as in <+5d>
abbrev pub named_day : ℕ → List ℕ → Option ℕ
named_day today text =
    if bytes_eq text (codes "<today>") then Some today
    else (if bytes_eq text (codes "<tomorrow>") then day_moved false 1 Day today
    else relative_day today (drop 1 text))

-- the minute of a stamp that is the whole text; a range counts as its first stamp
abbrev pub whole_stamp : List ℕ → Option (Stamp × ℕ) → Option ℕ
whole_stamp text None = None
whole_stamp text (Some found) = if found.1 == length text then Some (minute_at (found.0.day, found.0.time)) else None

-- the minute that a quoted text names at a moment: that of <now>, of the beginning of a named day, or of a stamp
abbrev pub named_minute : Moment → List ℕ → Option ℕ
named_minute moment text =
    if bytes_eq text (codes "<now>") then Some (minute_of moment.day moment.minute)
    else option_or (option_map (λ day. minute_of day 0) (named_day moment.day text)) (whole_stamp text (stamp_of text))

-- the minute of the stamp at the front of a property's text, active or not
abbrev pub front_minute : List ℕ → Option ℕ
front_minute text = option_map (λ found. minute_at (found.0.day, found.0.time)) (single_of text)
