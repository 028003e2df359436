-- Properties as content lines (RFC 5545, 3.1, "Content Lines", and 3.8, "Component Properties").
-- Characters by their codes: 58 colon, 90 Z.
use Rattle.std.specs.Prelude.{ℕ, List, [], ◌∷◌, ◌++◌, Option, None, Some, codes}
use Rattle.org_ical.specs.Dates.{date_text, digit, moment_text}
use Rattle.org_ical.specs.Texts.{value_text, values_text}
use Rattle.org_ical.specs.declared.date.Date.{Date}
use Rattle.org_ical.specs.declared.date.Time.{Time}
use Rattle.org_ical.specs.declared.date.When.{When}
use Rattle.org_ical.specs.declared.date.When.TheVariants.{At, Between, Day, Days}

-- a property of a name with a value
abbrev pub property : List ℕ → List ℕ → List ℕ
property name value = name ++ 58 ∷ value

-- one whose value is a text
abbrev pub text_line : List ℕ → List ℕ → List ℕ
text_line name text = property name (value_text text)

-- a property whose value is a day
abbrev pub day_line : List ℕ → Date → List ℕ
day_line name date = property (name ++ codes ";VALUE=DATE") (date_text date)

-- when something begins, or is due: a day, or a time of a day
abbrev pub when_line : List ℕ → When → List ℕ
when_line name (Day date) = day_line name date
when_line name (Days date behind) = day_line name date
when_line name (At date time) = property name (moment_text date time)
when_line name (Between date start last end) = property name (moment_text date start)

-- when it ends, if that is known: days end where the first day behind them begins
abbrev pub end_lines : When → List (List ℕ)
end_lines (Day date) = []
end_lines (At date time) = []
end_lines (Days date behind) = day_line (codes "DTEND") behind ∷ []
end_lines (Between date start last end) = property (codes "DTEND") (moment_text last end) ∷ []

-- the categories, if there are any
abbrev pub categories_lines : List (List ℕ) → List (List ℕ)
categories_lines [] = []
categories_lines (text ∷ texts) = property (codes "CATEGORIES") (values_text (text ∷ texts)) ∷ []

-- the priority, if there is one
abbrev pub priority_lines : Option ℕ → List (List ℕ)
priority_lines None = []
priority_lines (Some number) = property (codes "PRIORITY") (digit number ∷ []) ∷ []

-- when a calendar is made
abbrev pub stamp_line : Date → Time → List ℕ
stamp_line date time = property (codes "DTSTAMP") (moment_text date time ++ 90 ∷ [])

-- a property whose value is a text, if that says anything
abbrev pub some_text : List ℕ → List ℕ → List (List ℕ)
some_text name [] = []
some_text name (byte ∷ bytes) = text_line name (byte ∷ bytes) ∷ []
