-- Grids of days, whose lines are equally wide.
use Rattle.std.specs.Prelude.{◌≡◌, ℕ, ◌+◌, ◌*◌, if◌then◌else◌, List, All, sum_by}
use Rattle.org_look.specs.Cuts.{is_narrow}
use Rattle.org_look.specs.declared.strip.Strip.{Strip}

-- the columns of the week's number: one less where cells are narrow
abbrev pub gutter : ℕ → ℕ
gutter cell = if is_narrow cell then 2 else 3

-- the columns of a line: the week's number, seven cells and eight borders
abbrev pub line_width : ℕ → ℕ
line_width cell = gutter cell + (7 * (cell + 1) + 1)

-- the columns of strips beside one another, a border before each
abbrev pub all_columns : List Strip → ℕ
all_columns strips = sum_by (λ strip. 1 + strip.columns) strips

-- each line takes so many columns
abbrev pub AreWide : ℕ → List Strip → Type 0
AreWide columns lines = All (λ line. line.columns ≡ columns) lines
