-- Laws of clock tables (Org manual 9.6, "The clock table").
use Rattle.std.specs.Prelude.{◌≡◌, ◌↔◌, ℕ, ◌+◌, ◌≤◌, ◌&&◌, if◌then◌else◌, Bool, decimal, is_some, List, [], ◌∷◌, Some, slice_get}
use Rattle.std.specs.List.{sum_by}
use Rattle.org_cal.specs.Pieces.{pieces}
use Rattle.org_cal.specs.declared.steps.Step.{Step}
use Rattle.org_clocktable.specs.Counted.{Counted, heading_sum, total}
use Rattle.org_clocktable.specs.Options.{level_of as level_in}
use Rattle.org_clocktable.specs.Table.{step_rows}
use Rattle.org_clocktable.specs.declared.row.Of.{Of}
use Rattle.org_clocktable.specs.declared.row.Of.TheVariants.{All, File, Heading}
use Rattle.org_clocktable.specs.declared.row.TableRow.{TableRow}
use Rattle.org_entry.specs.declared.entry.Entry.{Entry}
use Rattle.org_outline.specs.Levels.{level_of}
use Rattle.org_sum.specs.Measures.{clock_minutes, effort_minutes}

-- what a heading has in the steps of a period, whole, by days or by weeks, is in sum what it has in the whole
abbrev pub StepsMakeTheWhole : Type 0
StepsMakeTheWhole = (step : Step) (first last : ℕ) (file : Counted) (i : ℕ) → 1 ≤ first → first ≤ last →
    sum_by (λ days. heading_sum (clock_minutes days) file i) (pieces step last first) ≡ heading_sum (clock_minutes (first, last)) file i

-- the clock sum of a line of a file; 0 of other lines
abbrev pub clock_of_file : Of → ℕ → ℕ
clock_of_file All clock = 0
clock_of_file (File file) clock = clock
clock_of_file (Heading file i level) clock = 0

-- the total of clocks is the sum of those in the rows of files
abbrev pub TotalsAreOfFiles : Type 0
TotalsAreOfFiles = (days : ℕ × ℕ) (most : ℕ) (files : List Counted) →
    sum_by (λ (row : TableRow). clock_of_file row.of row.clock) (step_rows days most files) ≡ total (clock_minutes days) files

-- what the headings of a file that count have of a measure
abbrev pub counting : (Entry → ℕ) → List Entry → List Bool → ℕ
counting f [] counts = 0
counting f (e ∷ es) [] = 0
counting f (e ∷ es) (c ∷ cs) = (if is_some (level_of e) && c then f e else 0) + counting f es cs

-- what the headings of all files that count have of a measure
abbrev pub counting_in : (Entry → ℕ) → List Counted → ℕ
counting_in f files = sum_by (λ (file : Counted). counting f file.entries file.counted) files

-- the first row has the clocks and the efforts of all headings that count, of all files of the table
abbrev pub TotalsAreOfAllThatCount : Type 0
TotalsAreOfAllThatCount = (days : ℕ × ℕ) (most : ℕ) (files : List Counted) →
    slice_get (step_rows days most files) 0 ≡ Some (record { of = All; clock = counting_in (clock_minutes days) files; effort = counting_in effort_minutes files })

-- a level is written as its decimal text, 1 to 99
abbrev pub LevelsAreSpelled : Type 0
LevelsAreSpelled = (word : List ℕ) (n : ℕ) → (level_in word ≡ Some n) ↔ ((word ≡ decimal n) × (1 ≤ n) × (n ≤ 99))
