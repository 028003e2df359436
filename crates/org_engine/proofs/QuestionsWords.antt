-- Words of the proofs about Questions: parts of its definitions.
use Rattle.std.specs.Option.{option_map_or}
use Rattle.std.specs.Prelude.{ℕ, ◌+◌, ◌&&◌, nat_le, if◌then◌else◌, List, Option, Result, chars, MatchResult, IsSomeAnd}
use Rattle.org_base.specs.declared.code.Code.TheVariants.{Days}
use Rattle.org_base.specs.declared.fault.Fault.{Fault}
use Rattle.org_base.specs.declared.fault.Fault.TheVariants.{Plain}
use Rattle.org_cal.specs.Faults.{date_fault}
use Rattle.org_cal.specs.declared.day.TheConstants.{LAST_DAY}
use Rattle.org_expression.specs.Grammar.{Expr, Reads}
use Rattle.org_match.specs.Refusal.{AreReadable, patterns}
use Rattle.org_engine.specs.Step.{DayAgenda, Query, Unread}
use Rattle.org_base.specs.declared.limits.TheConstants.{MOST_DAYS}
use Rattle.org_engine.specs.Questions.{IsUnread}

-- the refusal of an agenda of no day, of too many, or of days past the last of the years 1 to 9999
abbrev pub days_fault : Fault
days_fault = Plain Days

-- what a text is read as: an expression, of which the grammar of `regex`'s dialect reads each pattern, or why it is none
abbrev pub IsReadAs : List ℕ → Result Expr Fault → Type 0
IsReadAs text read = MatchResult read (λ expr. Reads (chars text) expr × AreReadable (patterns expr)) (IsUnread text)

-- what is asked by a first day and a number of days: an agenda, if there is a day, there aren't too many, and the last is
-- one of the years 1 to 9999
abbrev pub asked_days : ℕ → ℕ → Query
asked_days first count =
    if nat_le 1 count && nat_le count MOST_DAYS && nat_le (first + count) (LAST_DAY + 1) then DayAgenda first count else Unread days_fault

-- what is asked by a date that could be read, or couldn't, and a number of days
abbrev pub asked_from : Option ℕ → ℕ → Query
asked_from found count = option_map_or (λ first. asked_days first count) found (Unread date_fault)

-- why the expression of a table isn't read, if it has one
abbrev pub IsUnreadIf : Option (List ℕ) → Fault → Type 0
IsUnreadIf found fault = IsSomeAnd found (λ text. IsUnread text fault)
