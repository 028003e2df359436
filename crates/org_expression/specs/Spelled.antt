-- Decimals and named days without the reader's steps (Org manual 9.6, "Matching tags and properties"; how many digits
-- count: profile).
-- Characters by their codes: 46 ., 48 0.
use Rattle.std.specs.Prelude.{◌≡◌, ◌⊎◌, ℕ, ◌+◌, ◌^◌, ◌≤◌, Bool, true, false, List, [], ◌∷◌, ◌++◌, length, take, replicate, codes, ℤ, pos, neg_ℤ}
use Rattle.std.specs.Char.{is_ascii_digit}
use Rattle.std.specs.Str.{all_ascii_digits}
use Rattle.std.specs.Str.Parse.{digits_value}
use Rattle.org_cal.specs.Added.{IsAdded}
use Rattle.org_cal.specs.declared.unit.Unit.{Unit as TimeUnit}
use Rattle.org_cal.specs.declared.unit.Unit.TheVariants.{Day, Week, Month, Year}

-- digits alone, or none
abbrev pub AreDigits : List ℕ → Type 0
AreDigits bs = all_ascii_digits bs ≡ true

-- the billionths of a decimal: its digits before the point and nine after it, with zeros where digits lack
abbrev pub billionths : List ℕ → List ℕ → ℕ
billionths whole fraction = digits_value 10 (whole ++ take 9 (fraction ++ replicate 9 48))

-- the number counts so many billionths from 10^27 on, or back where the decimal is negative
abbrev pub IsValue : Bool → List ℕ → List ℕ → ℕ → Type 0
IsValue true whole fraction n = n + billionths whole fraction ≡ 10 ^ 27
IsValue false whole fraction n = n ≡ 10 ^ 27 + billionths whole fraction

-- a minus; a plus or nothing
abbrev pub IsSign : Bool → List ℕ → Type 0
IsSign true sign = sign ≡ codes "-"
IsSign false sign = (sign ≡ []) ⊎ (sign ≡ codes "+")

-- nothing, or no digit first
abbrev pub NoDigit : List ℕ → Type 0
NoDigit [] = Unit {0}
NoDigit (b ∷ bs) = is_ascii_digit b ≡ false

-- nothing, or no point first
abbrev pub NoPoint : List ℕ → Type 0
NoPoint [] = Unit {0}
NoPoint (b ∷ bs) = (b ≡ 46) → ⊥

-- a point and the digits after it, if there are any; or nothing, where no point follows
abbrev pub IsFraction : List ℕ → List ℕ → List ℕ → Type 0
IsFraction part fraction rest = (part ≡ codes "." ++ fraction) ⊎ ((part ≡ []) × (fraction ≡ []) × NoPoint rest)

-- the longest decimal at the front of a text: a sign or none, one to eighteen digits, perhaps a point and digits
pub record Decimal (text : List ℕ) : Type 0 where
  pub negative : Bool
  pub sign : List ℕ
  pub whole : List ℕ
  pub part : List ℕ
  pub fraction : List ℕ
  pub rest : List ℕ
  pub text_is : text ≡ sign ++ (whole ++ (part ++ rest))
  pub sign_is : IsSign negative sign
  pub some : 1 ≤ length whole
  pub few : length whole ≤ 18
  pub whole_is : AreDigits whole
  pub part_is : IsFraction part fraction rest
  pub fraction_is : AreDigits fraction
  pub ends : NoDigit rest

-- the letter of a unit
pub data IsLetter : List ℕ → TimeUnit → Type 0 where
  DayLetter : IsLetter (codes "d") Day
  WeekLetter : IsLetter (codes "w") Week
  MonthLetter : IsLetter (codes "m") Month
  YearLetter : IsLetter (codes "y") Year

-- how many units digits lead forward
abbrev pub later : List ℕ → ℤ
later digits = pos (digits_value 10 digits)

-- how many units digits lead back
abbrev pub earlier : List ℕ → ℤ
earlier digits = neg_ℤ (pos (digits_value 10 digits))

-- one to four digits
abbrev pub IsCount : List ℕ → Type 0
IsCount digits = (1 ≤ length digits) × (length digits ≤ 4) × AreDigits digits

-- <today>, <tomorrow>, or so many units after or before today by the calendar, as <+5d> and <-2w>
pub data NamesDay (today : ℕ) (text : List ℕ) (day : ℕ) : Type 0 where
  Today : text ≡ codes "<today>" → day ≡ today → NamesDay today text day
  Tomorrow : text ≡ codes "<tomorrow>" → IsAdded today (pos 1) Day day → NamesDay today text day
  After : (digits letter : List ℕ) (unit : TimeUnit) → text ≡ codes "<+" ++ (digits ++ (letter ++ codes ">")) → IsCount digits → IsLetter letter unit → IsAdded today (later digits) unit day → NamesDay today text day
  Before : (digits letter : List ℕ) (unit : TimeUnit) → text ≡ codes "<-" ++ (digits ++ (letter ++ codes ">")) → IsCount digits → IsLetter letter unit → IsAdded today (earlier digits) unit day → NamesDay today text day
