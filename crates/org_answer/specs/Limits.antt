-- The first rows of an answer (profile).
use Rattle.std.specs.Prelude.{ℕ, ◌-◌, ◌==◌, Bool, true, false, if◌then◌else◌, List, [], ◌∷◌, Option, None, Some}
use Rattle.org_layout.specs.declared.shown.Line.{Line}
use Rattle.org_layout.specs.declared.shown.Line.TheVariants.{Day, Step, Row, Table}

-- a line stands for a row, and not for a day or the days of a table
abbrev pub is_row : Line → Bool
is_row (Day day) = false
is_row (Step first last) = false
is_row (Row shown) = true
is_row (Table row) = true

-- how many rows are left to be shown after a line
abbrev pub left_after : ℕ → Line → ℕ
left_after left line = if is_row line then left - 1 else left

-- the lines up to the last of so many rows
unfoldable pub first_rows : ℕ → List Line → List Line
first_rows left [] = []
first_rows left (line ∷ lines) = if left == 0 then [] else line ∷ first_rows (left_after left line) lines

-- all of them where no number is named
abbrev pub first_of : Option ℕ → List Line → List Line
first_of None lines = lines
first_of (Some n) lines = first_rows n lines
