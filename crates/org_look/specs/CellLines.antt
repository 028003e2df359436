-- What the lines of a cell say.
use Rattle.std.specs.Prelude.{ℕ, ◌++◌, List, [], codes, decimal, get_or, map}
use Rattle.std.specs.String.{string_bytes}
use Rattle.org_look.specs.Cells.{content_of}
use Rattle.org_look.specs.Cuts.{filled_text, row_text}
use Rattle.org_look.specs.declared.cell.Cell.{Cell}
use Rattle.org_look.specs.declared.cell.Content.{Content}
use Rattle.org_look.specs.declared.cell.Content.TheVariants.{Row, Others, Note, Blank}
use Rattle.org_look.specs.declared.cell.Note.{Note as CellNote}
use Rattle.org_look.specs.declared.sign.Signs.{Signs}

-- the label of a row, and the text of a note at the foot; empty where there is none
abbrev pub label_at : Cell → ℕ → List ℕ
label_at cell row = get_or (map string_bytes cell.labels.items) row []

abbrev pub note_at : Cell → ℕ → List ℕ
note_at cell note = get_or (map (λ (n : CellNote). string_bytes n.text) cell.notes.items) note []

-- the number of all others, behind a plus
abbrev pub others_text : ℕ → List ℕ
others_text left = codes "+" ++ (decimal left ++ codes " more")

-- what a line of it shows, in so many columns
abbrev pub content_text : Signs → ℕ → Cell → Content → List ℕ
content_text signs columns cell (Row row) = row_text signs columns (label_at cell row)
content_text signs columns cell (Note note) = filled_text signs columns (note_at cell note)
content_text signs columns cell Others = filled_text signs columns (others_text cell.shape.left)
content_text signs columns cell Blank = filled_text signs columns []

abbrev pub line_of_cell : Signs → ℕ → Cell → ℕ → List ℕ
line_of_cell signs columns cell place = content_text signs columns cell (content_of cell.shape place)
