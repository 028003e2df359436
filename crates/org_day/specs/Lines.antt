-- Lines, as wide as a terminal and as it may show them.
use Rattle.std.specs.Prelude.{◌≡◌, ◌≤◌, ℕ, List, All, Result, OnOk, IfOk, Vec}
use Rattle.std.specs.List.{flat_map}
use Rattle.std.specs.String.{string_bytes}
use Rattle.org_day.specs.Shown.{IsShown}
use Rattle.org_day.specs.Widths.{columns_of}
use Rattle.org_day.specs.declared.line.Line.{Line}
use Rattle.org_day.specs.declared.line.Span.{Span}

-- the text of a part
abbrev pub span_text : Span → List ℕ
span_text span = string_bytes span.text

-- the text of a line
abbrev pub line_text : Line → List ℕ
line_text line = flat_map span_text line.spans.items

-- each part can be shown as it is
abbrev pub AreShown : List Span → Type 0
AreShown = All (λ span. IsShown (span_text span))

-- a line of so many columns at most, each part of which can be shown as it is
pub record IsLine (columns : ℕ) (line : Line) : Type 0 where
  pub within : columns_of (line_text line) ≤ columns
  pub shown : AreShown line.spans.items

-- lines that are such stay so with those that are added, unless memory is refused
abbrev pub KeepsLines : {T A E : Type 0} → ℕ → Result T E → Vec Line A → Vec Line A → Type 0
KeepsLines columns result old new = OnOk result (All (IsLine columns) old.items → All (IsLine columns) new.items)

-- such a line, unless memory is refused
abbrev pub GivesLine : {E : Type 0} → ℕ → Result Line E → Type 0
GivesLine columns result = IfOk result (IsLine columns)
