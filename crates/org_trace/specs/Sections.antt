-- The rows of a log (Org's log mode: of each line at most one).
use Rattle.std.specs.Cow.{cow_slice_items}
use Rattle.std.specs.Prelude.{ℕ, ◌+◌, if◌then◌else◌, List, [], ◌∷◌, ◌++◌, Option, None, Some}
use Rattle.org_base.specs.declared.span.Span.{Span}
use Rattle.org_class.specs.Classes.{classes_in}
use Rattle.org_class.specs.Sections.{sections, spans_from}
use Rattle.org_class.specs.declared.class.Class.{Class}
use Rattle.org_lines.specs.Cuts.{Cut, cuts, lines_in}
use Rattle.org_lines.specs.declared.lines.Line.{Line}
use Rattle.org_trace.specs.Asked.{FileAsked, SectionAsked}
use Rattle.org_trace.specs.Entries.{line_entry}
use Rattle.org_trace.specs.Rows.{is_asked, is_shown}
use Rattle.org_trace.specs.declared.entry.LogEntry.{LogEntry}
use Rattle.org_trace.specs.declared.row.LogRow.{LogRow}

-- the row of what a line logs that begins at a place, if that is asked for
abbrev pub entry_rows : SectionAsked → ℕ → Option LogEntry → List LogRow
entry_rows s at None = []
entry_rows s at (Some entry) =
    if is_asked s.asked entry then record { file = s.file; heading = s.heading; at = at; entry = entry } ∷ [] else []

-- those of a line of a class
abbrev pub line_rows : SectionAsked → Class → ℕ → List ℕ → List LogRow
line_rows s class at line = entry_rows s at (line_entry s.keywords class line)

-- the same, if there is a class
abbrev pub rows_if : SectionAsked → Option Class → ℕ → List ℕ → List LogRow
rows_if s None at line = []
rows_if s (Some class) at line = line_rows s class at line

-- those of a line that was read
abbrev pub rows_of_line : SectionAsked → Option Class → Line → List LogRow
rows_of_line s class line = rows_if s class line.span.at (cow_slice_items line.bytes)

-- those of lines where they stand, of these classes, one for each
abbrev pub cut_rows : SectionAsked → List Cut → List Class → List LogRow
cut_rows s [] cs = []
cut_rows s (l ∷ ls) [] = []
cut_rows s (l ∷ ls) (c ∷ cs) = line_rows s c l.at l.bytes ++ cut_rows s ls cs

-- those of a section whose lines are of these classes
abbrev pub rows_of : SectionAsked → List ℕ → List Class → List LogRow
rows_of s content classes = cut_rows s (cuts (λ at. 0) s.span.at (lines_in content s.span)) classes

-- those of a section
abbrev pub section_rows : SectionAsked → List ℕ → List LogRow
section_rows s content = rows_of s content (classes_in content s.span)

-- the section at a place of a file, which has a part of its text
abbrev pub section_at : FileAsked → ℕ → Span → SectionAsked
section_at of heading span = record { file = of.file; heading = heading; span = span; keywords = of.keywords; asked = of.asked }

-- its rows, if they are shown
abbrev pub rows_if_shown : FileAsked → SectionAsked → List ℕ → List LogRow
rows_if_shown of s content = if is_shown of.shown s.heading then section_rows s content else []

-- those of sections that stand at these places, the first of which has a place in the file
abbrev pub span_rows : FileAsked → List ℕ → ℕ → List Span → List LogRow
span_rows of content heading [] = []
span_rows of content heading (span ∷ spans) =
    rows_if_shown of (section_at of heading span) content ++ span_rows of content (heading + 1) spans

-- those of a file's text
abbrev pub text_rows : FileAsked → List ℕ → List LogRow
text_rows of content = span_rows of content 0 (spans_from 0 (sections content))
