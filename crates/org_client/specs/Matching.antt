-- Rows whose headings meet expressions (Org manual 9.6, "Matching tags and properties"; which views take them: profile).
use Rattle.std.specs.Prelude.{ℕ, Bool, false, true, ◌&&◌, List, [], ◌∷◌, Option, Some, None, filter, map, slice_get}
use Rattle.org_agenda.specs.Holding.{holds_of}
use Rattle.org_agenda.specs.declared.row.Row.{Row}
use Rattle.org_agenda.specs.declared.source.HeadingStamp.{HeadingStamp}
use Rattle.org_cal.specs.declared.moment.Moment.{Moment}
use Rattle.org_client.specs.declared.clocks.ClockRow.{ClockRow}
use Rattle.org_client.specs.declared.next.Upcoming.{Upcoming}
use Rattle.org_expression.specs.Grammar.{Expr}
use Rattle.org_inherit.specs.Scope.{Scope}

-- what a list says at a place, and false past its end
abbrev pub flag : Option Bool → Bool
flag None = false
flag (Some b) = b

abbrev pub holds_at : List Bool → ℕ → Bool
holds_at held heading = flag (slice_get held heading)

-- what the list of a file says of a heading; of no file, false
abbrev pub file_holds_at : Option (List Bool) → ℕ → Bool
file_holds_at None heading = false
file_holds_at (Some held) heading = holds_at held heading

-- the same where a list for each file says of which headings something holds
abbrev pub heading_holds_at : List (List Bool) → ℕ → ℕ → Bool
heading_holds_at held file heading = file_holds_at (slice_get held file) heading

abbrev pub is_of_matching : List (List Bool) → HeadingStamp → Bool
is_of_matching held stamp = heading_holds_at held stamp.owner.file stamp.owner.heading

abbrev pub is_row_matching : List (List Bool) → Row → Bool
is_row_matching held row = heading_holds_at held row.file row.heading

abbrev pub is_clock_matching : List (List Bool) → ClockRow → Bool
is_clock_matching held row = heading_holds_at held row.file row.heading

-- the expression holds of the heading at a place of the file at a place
abbrev pub meets : Expr → Moment → List Scope → ℕ → ℕ → Bool
meets expr moment scopes file heading = heading_holds_at (map (holds_of expr moment) scopes) file heading

-- so does each of these expressions
abbrev pub meets_all : List Expr → Moment → List Scope → ℕ → ℕ → Bool
meets_all [] moment scopes file heading = true
meets_all (expr ∷ exprs) moment scopes file heading = meets expr moment scopes file heading && meets_all exprs moment scopes file heading

-- a stamp, a row and a row of a day by a test of headings
abbrev pub of_stamp : (ℕ → ℕ → Bool) → HeadingStamp → Bool
of_stamp holds stamp = holds stamp.owner.file stamp.owner.heading

abbrev pub of_row : (ℕ → ℕ → Bool) → Row → Bool
of_row holds row = holds row.file row.heading

abbrev pub of_upcoming : (ℕ → ℕ → Bool) → Upcoming → Bool
of_upcoming holds upcoming = of_row holds upcoming.row

-- those of some stamps whose headings meet the expression
abbrev pub meeting : Expr → Moment → List Scope → List HeadingStamp → List HeadingStamp
meeting expr moment scopes stamps = filter (of_stamp (meets expr moment scopes)) stamps

-- those whose headings meet each of these expressions
abbrev pub matching : List Expr → Moment → List Scope → List HeadingStamp → List HeadingStamp
matching [] moment scopes stamps = stamps
matching (expr ∷ exprs) moment scopes stamps = matching exprs moment scopes (meeting expr moment scopes stamps)

-- the same of rows
abbrev pub met_rows : Expr → Moment → List Scope → List Row → List Row
met_rows expr moment scopes rows = filter (of_row (meets expr moment scopes)) rows

abbrev pub all_meeting : List Expr → Moment → List Scope → List Row → List Row
all_meeting [] moment scopes rows = rows
all_meeting (expr ∷ exprs) moment scopes rows = all_meeting exprs moment scopes (met_rows expr moment scopes rows)

-- the same of clock lines
abbrev pub of_clock : (ℕ → ℕ → Bool) → ClockRow → Bool
of_clock holds row = holds row.file row.heading

abbrev pub met_clocks : Expr → Moment → List Scope → List ClockRow → List ClockRow
met_clocks expr moment scopes rows = filter (of_clock (meets expr moment scopes)) rows

abbrev pub all_clocks : List Expr → Moment → List Scope → List ClockRow → List ClockRow
all_clocks [] moment scopes rows = rows
all_clocks (expr ∷ exprs) moment scopes rows = all_clocks exprs moment scopes (met_clocks expr moment scopes rows)
