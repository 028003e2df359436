-- The rows of a page, and their titles.
use Rattle.std.specs.Prelude.{ℕ, List, map}
use Rattle.std.specs.String.{string_bytes}
use Rattle.org_page.specs.declared.row.Row.{Row}

-- the title of a row with its link
abbrev pub row_title : Row → List ℕ × List ℕ
row_title row = (string_bytes row.words, string_bytes row.link)

-- those of rows, in order
abbrev pub rows_titles : List Row → List (List ℕ × List ℕ)
rows_titles rows = map row_title rows
