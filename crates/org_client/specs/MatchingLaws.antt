-- Laws of rows whose headings meet expressions: they are those of all rows, in the same order.
use Rattle.std.specs.Prelude.{◌≡◌, ℕ, Bool, List, filter}
use Rattle.org_agenda.specs.Days.{AgendaView, day_rows}
use Rattle.org_agenda.specs.declared.source.HeadingStamp.{HeadingStamp}
use Rattle.org_base.specs.declared.profile.Profile.{Profile}
use Rattle.org_cal.specs.declared.moment.Moment.{Moment}
use Rattle.org_client.specs.Matching.{matching, meets_all, of_row, of_stamp, of_upcoming}
use Rattle.org_client.specs.Next.{next_rows}
use Rattle.org_expression.specs.Grammar.{Expr}
use Rattle.org_inherit.specs.Scope.{Scope}

-- an agenda over some stamps
abbrev pub over : AgendaView → List HeadingStamp → AgendaView
over agenda stamps = record agenda { sources = stamps }

-- stamps whose headings meet expressions are those whose headings meet all of them
abbrev pub MatchingMeetsAll : Type 0
MatchingMeetsAll = (exprs : List Expr) (moment : Moment) (scopes : List Scope) (stamps : List HeadingStamp) →
    matching exprs moment scopes stamps ≡ filter (of_stamp (meets_all exprs moment scopes)) stamps

-- the rows of a day over the stamps of some headings are those of the day over all stamps that are of these headings
abbrev pub DaysAreFiltered : Type 0
DaysAreFiltered = (holds : ℕ → ℕ → Bool) (p : Profile) (stamps : List HeadingStamp) (today day : ℕ) →
    day_rows p (filter (of_stamp holds) stamps) today day ≡ filter (of_row holds) (day_rows p stamps today day)

-- and what comes next of them is what comes next of all that is of these headings
abbrev pub NextIsFiltered : Type 0
NextIsFiltered = (holds : ℕ → ℕ → Bool) (now : Moment) (agenda : AgendaView) →
    next_rows now (over agenda (filter (of_stamp holds) agenda.sources)) ≡ filter (of_upcoming holds) (next_rows now agenda)
