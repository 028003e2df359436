-- The rows of a clock table (Org manual 9.6, "The clock table"; which lines are shown: profile).
use Rattle.org_agenda.specs.Found.{found_from}
use Rattle.std.specs.Prelude.{ℕ, nat_lt, nat_le, ◌&&◌, if◌then◌else◌, List, [], ◌∷◌, Option, None, Some}
use Rattle.org_entry.specs.declared.entry.Entry.{Entry}
use Rattle.org_clocktable.specs.Counted.{Counted, file_sum, heading_sum, total}
use Rattle.org_clocktable.specs.declared.row.Of.TheVariants.{All, File, Heading}
use Rattle.org_clocktable.specs.declared.row.TableRow.{TableRow}
use Rattle.org_clocktable.specs.declared.rows.TableFile.{TableFile}
use Rattle.org_outline.specs.Levels.{level_of, levels}
use Rattle.org_outline.specs.Tree.{level_at}
use Rattle.org_sum.specs.Measures.{clock_minutes, effort_minutes}

-- the row of the entry at a place with these sums, if it is a heading of at most this level with clocks in the days
abbrev pub level_rows : ℕ → ℕ → ℕ → ℕ → ℕ → Option ℕ → List TableRow
level_rows most file i clock effort None = []
level_rows most file i clock effort (Some level) =
    if nat_le level most && nat_lt 0 clock then record { of = Heading file i level; clock = clock; effort = effort } ∷ [] else []

-- the row of an entry with these sums, by the entry's own level
abbrev pub entry_rows : ℕ → ℕ → ℕ → ℕ → ℕ → Entry → List TableRow
entry_rows most file i clock effort e = level_rows most file i clock effort (level_of e)

-- that of the entry at a place of a file
abbrev pub rows_at : ℕ × ℕ → ℕ → ℕ → Counted → ℕ → List TableRow
rows_at days most file counted i = level_rows most file i (heading_sum (clock_minutes days) counted i) (heading_sum effort_minutes counted i) (level_at (levels counted.entries) i)

-- the rows of all headings of a file
abbrev pub heading_rows : ℕ × ℕ → ℕ → ℕ → Counted → List TableRow
heading_rows days most file counted =
    found_from (λ i e. level_rows most file i (heading_sum (clock_minutes days) counted i) (heading_sum effort_minutes counted i) (level_of e)) 0 counted.entries

-- the rows of a file, if it has clocks in the days: its own, and those of its headings
abbrev pub file_rows : ℕ × ℕ → ℕ → ℕ → Counted → List TableRow
file_rows days most file counted =
    if nat_lt 0 (file_sum (clock_minutes days) counted)
    then record { of = File file; clock = file_sum (clock_minutes days) counted; effort = file_sum effort_minutes counted } ∷ heading_rows days most file counted else []

-- the lines of a file by what the code knows of it
abbrev pub lines_of : ℕ × ℕ → ℕ → TableFile → List TableRow
lines_of days most file = file_rows days most file.place file.counted.now

-- those of its entries
abbrev pub heading_lines : ℕ × ℕ → ℕ → TableFile → List TableRow
heading_lines days most file = heading_rows days most file.place file.counted.now

-- that of the entry at a place
abbrev pub line_at : ℕ × ℕ → ℕ → TableFile → ℕ → List TableRow
line_at days most file i = rows_at days most file.place file.counted.now i

-- the rows of files, of which the first stands at a place
abbrev pub files_rows : ℕ × ℕ → ℕ → ℕ → List Counted → List TableRow
files_rows days most file files = found_from (file_rows days most) file files

-- the rows of the days from a first to a last: the total, then files and headings in their order
unfoldable pub step_rows : ℕ × ℕ → ℕ → List Counted → List TableRow
step_rows days most files = record { of = All; clock = total (clock_minutes days) files; effort = total effort_minutes files } ∷ found_from (file_rows days most) 0 files
