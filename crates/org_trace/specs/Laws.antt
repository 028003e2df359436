-- Laws of logs: which rows a section has.
use Rattle.std.specs.Prelude.{◌≡◌, ℕ, true, ◌⊎◌, List, [], ◌∷◌, Some}
use Rattle.org_class.specs.declared.class.Class.{Class}
use Rattle.org_lines.specs.Cuts.{Cut}
use Rattle.org_trace.specs.Asked.{SectionAsked}
use Rattle.org_trace.specs.Entries.{line_entry}
use Rattle.org_trace.specs.Rows.{is_asked}
use Rattle.org_trace.specs.Sections.{cut_rows}
use Rattle.org_trace.specs.declared.entry.LogEntry.{LogEntry}
use Rattle.org_trace.specs.declared.row.LogRow.{LogRow}

-- a line stands among lines, and a class at its place among classes
abbrev pub IsLineOf : Cut → Class → List Cut → List Class → Type 0
IsLineOf l c [] cs = ⊥
IsLineOf l c (m ∷ ls) [] = ⊥
IsLineOf l c (m ∷ ls) (d ∷ cs) = ((l ≡ m) × (c ≡ d)) ⊎ IsLineOf l c ls cs

-- a row stands among rows
abbrev pub IsRowOf : LogRow → List LogRow → Type 0
IsRowOf row [] = ⊥
IsRowOf row (r ∷ rows) = (row ≡ r) ⊎ IsRowOf row rows

-- the row of an entry that a line of a section logs
abbrev pub row_at : SectionAsked → ℕ → LogEntry → LogRow
row_at s at entry = record { file = s.file; heading = s.heading; at = at; entry = entry }

-- whatever a line logs that is asked for has its row
abbrev pub AllAreListed : Type 0
AllAreListed = (s : SectionAsked) (lines : List Cut) (classes : List Class) (l : Cut) (c : Class) (entry : LogEntry) →
    IsLineOf l c lines classes → line_entry s.keywords c l.bytes ≡ Some entry → is_asked s.asked entry ≡ true →
    IsRowOf (row_at s l.at entry) (cut_rows s lines classes)

-- a line that logs what a row says, where the row says that it stands
pub record IsLogged (s : SectionAsked) (lines : List Cut) (classes : List Class) (row : LogRow) : Type 0 where
  pub line : Cut
  pub class : Class
  pub line_is : IsLineOf line class lines classes
  pub says : line_entry s.keywords class line.bytes ≡ Some row.entry
  pub asked : is_asked s.asked row.entry ≡ true
  pub is : row ≡ row_at s line.at row.entry

-- and each row is of such a line, of its own section
abbrev pub RowsAreTrue : Type 0
RowsAreTrue = (s : SectionAsked) (lines : List Cut) (classes : List Class) (row : LogRow) →
    IsRowOf row (cut_rows s lines classes) → IsLogged s lines classes row
