-- Laws of the grammar, of numbers and of named days (Org manual 9.6, "Matching tags and properties"; limits: profile).
use Rattle.std.specs.Prelude.{◌≡◌, ◌↔◌, ℕ, ◌^◌, ◌≤◌, Bool, true, List, length, Some}
use Rattle.org_cal.specs.Days.{IsDay}
use Rattle.org_expression.specs.Decimal.{number, number_at}
use Rattle.org_expression.specs.Grammar.{Expr, IsExpr, Reads, IsLongestFront, spell}
use Rattle.org_expression.specs.Draft.{read_all}
use Rattle.org_expression.specs.Spelled.{AreDigits, Decimal, IsValue, NamesDay}
use Rattle.org_expression.specs.Times.{is_time, named_day}

-- no text is the spelling of two expressions
abbrev pub OneTree : Type 0
OneTree = (cs : List ℕ) (a b : Expr) → Reads cs a → Reads cs b → a ≡ b

-- what is read of a spelled expression is the expression
abbrev pub ReadAgain : Type 0
ReadAgain = (e : Expr) → IsExpr e → read_all (spell e) ≡ Some e

-- a text has one longest front that begins some expression
abbrev pub OneLongestFront : Type 0
OneLongestFront = (cs : List ℕ) (a b : ℕ) → IsLongestFront cs a → IsLongestFront cs b → a ≡ b

-- the number of one to eighteen digits, and of those after a point, is their value
abbrev pub NumbersAreValues : Type 0
NumbersAreValues = (negative : Bool) (whole fraction : List ℕ) → AreDigits whole → AreDigits fraction → 1 ≤ length whole → length whole ≤ 18 →
    IsValue negative whole fraction (number negative whole fraction)

-- the number at the front of a text is that of the longest decimal there, and that of 0 where there is none
abbrev pub FrontsAreDecimals : Type 0
FrontsAreDecimals = (text : List ℕ) →
    ((decimal : Decimal text) → IsValue decimal.negative decimal.whole decimal.fraction (number_at text))
    × ((Decimal text → ⊥) → number_at text ≡ 10 ^ 27)

-- a time names a day just where it is so spelled, and the day is the calendar's
abbrev pub DaysAreNamed : Type 0
DaysAreNamed = (today day : ℕ) (text : List ℕ) → IsDay today → is_time text ≡ true → (named_day today text ≡ Some day) ↔ NamesDay today text day
