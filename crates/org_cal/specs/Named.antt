-- Blocks of time without the reader's steps: what a text names, and which days lie there (Org manual 9.6, "The clock
-- table"; weeks by ISO 8601). The years 1 to 9999 are the profile's.
use Rattle.std.specs.Prelude.{◌≡◌, ◌↔◌, ℕ, ◌+◌, ◌-◌, ◌*◌, ◌<◌, ◌≤◌, List, [], ◌∷◌, ◌++◌, codes}
use Rattle.org_cal.specs.Days.{IsDay}
use Rattle.org_cal.specs.Parts.{year_of, month_of}
use Rattle.org_cal.specs.Texts.{two, four, date_text}
use Rattle.org_cal.specs.Weeks.{iso_year, iso_week}

-- a year, a month, quarter or week of a year, or a day
pub data Block : Type 0 where
  YearBlock : (year : ℕ) → Block
  MonthBlock : (year month : ℕ) → Block
  QuarterBlock : (year quarter : ℕ) → Block
  WeekBlock : (year week : ℕ) → Block
  DayBlock : (day : ℕ) → Block

-- the day lies in the block: it is of that year, and of that month, quarter or week
abbrev pub Lies : Block → ℕ → Type 0
Lies (YearBlock y) day = year_of day ≡ y
Lies (MonthBlock y m) day = (year_of day ≡ y) × (month_of day ≡ m)
Lies (QuarterBlock y q) day = (year_of day ≡ y) × (3 * (q - 1) < month_of day) × (month_of day ≤ 3 * q)
Lies (WeekBlock y w) day = (iso_year day ≡ y) × (iso_week day ≡ w)
Lies (DayBlock n) day = day ≡ n

-- YYYY, YYYY-MM, YYYY-Qn, YYYY-Www or YYYY-MM-DD
abbrev pub IsSpelled : Block → List ℕ → Type 0
IsSpelled (YearBlock y) text = (y < 10_000) × (text ≡ four y)
IsSpelled (MonthBlock y m) text = (y < 10_000) × (m < 100) × (text ≡ four y ++ (codes "-" ++ two m))
IsSpelled (QuarterBlock y q) text = (y < 10_000) × (q < 10) × (text ≡ four y ++ (codes "-Q" ++ (48 + q) ∷ []))
IsSpelled (WeekBlock y w) text = (y < 10_000) × (w < 100) × (text ≡ four y ++ (codes "-W" ++ two w))
IsSpelled (DayBlock n) text = IsDay n × (text ≡ date_text n)

-- the lengths that words name
pub data Length : Type 0 where
  OneDay : Length
  OneWeek : Length
  OneMonth : Length
  OneYear : Length

-- the block of a length in which a day lies
abbrev pub own : Length → ℕ → Block
own OneDay day = DayBlock day
own OneWeek day = WeekBlock (iso_year day) (iso_week day)
own OneMonth day = MonthBlock (year_of day) (month_of day)
own OneYear day = YearBlock (year_of day)

-- the word for the block in which today lies
abbrev pub this_word : Length → List ℕ
this_word OneDay = codes "today"
this_word OneWeek = codes "thisweek"
this_word OneMonth = codes "thismonth"
this_word OneYear = codes "thisyear"

-- the word for the block before
abbrev pub last_word : Length → List ℕ
last_word OneDay = codes "yesterday"
last_word OneWeek = codes "lastweek"
last_word OneMonth = codes "lastmonth"
last_word OneYear = codes "lastyear"

-- the day before the first of a block
abbrev pub IsEve : Block → ℕ → Type 0
IsEve block day = IsDay day × IsDay (day + 1) × (Lies block day → ⊥) × Lies block (day + 1)

-- what a text names on a day: the block in which today lies, that of the day before its first, or the one that it spells
pub data Names (text : List ℕ) (today : ℕ) (block : Block) : Type 0 where
  ByThis : (length : Length) → text ≡ this_word length → block ≡ own length today → Names text today block
  ByLast : (length : Length) → (eve : ℕ) → text ≡ last_word length → IsEve (own length today) eve → block ≡ own length eve → Names text today block
  BySpelling : IsSpelled block text → Names text today block

-- a week has all its seven days in the years 1 to 9999; the others never leave them in part
abbrev pub IsWhole : Block → ℕ → ℕ → Type 0
IsWhole (WeekBlock y w) first last = last ≡ first + 6
IsWhole block first last = Unit {0}

-- the days that lie in a block are those from the first to the last, and they are all of it
pub record HasDays (block : Block) (first last : ℕ) : Type 0 where
  pub first_is : IsDay first
  pub last_is : IsDay last
  pub ordered : first ≤ last
  pub are_those : (day : ℕ) → IsDay day → Lies block day ↔ ((first ≤ day) × (day ≤ last))
  pub whole : IsWhole block first last
