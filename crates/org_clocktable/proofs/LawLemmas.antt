-- Laws of clock tables.
use Rattle.std.proofs.Common.{◌≡◌, ℕ, ◌+◌, ◌≤◌, Bool, true, false, cond, ◌&&◌, nat_le, nat_lt, List, [], ◌∷◌, ◌++◌, Option, None, Some, refl, arith}
use Rattle.std.specs.List.{sum_by}
use Rattle.std.proofs.lemmas.Bool.Decides.{nat_tests}
use Rattle.std.proofs.lemmas.List.Sums.{sum_by-append, sum_by-cons}
use Rattle.org_cal.proofs.PieceLemmas.{pieces_are_cut}
use Rattle.org_cal.specs.Pieces.{pieces}
use Rattle.org_entry.specs.declared.entry.Entry.{Entry}
use Rattle.org_outline.specs.Levels.{level_of}
use Rattle.org_sum.proofs.PieceLemmas.{pieces_make_the_whole}
use Rattle.org_sum.specs.Measures.{clock_minutes, effort_minutes}
use Rattle.org_clocktable.specs.Counted.{Counted, file_sum, heading_sum, total}
use Rattle.org_clocktable.specs.Laws.{StepsMakeTheWhole, TotalsAreOfFiles, clock_of_file}
use Rattle.org_clocktable.specs.Table.{file_rows, files_rows, level_rows, step_rows}
use Rattle.org_clocktable.proofs.TableWords.{rows_from}
use Rattle.org_clocktable.specs.declared.row.Of.TheVariants.{All, File, Heading}
use Rattle.org_clocktable.specs.declared.row.TableRow.{TableRow}

pub steps_make_the_whole : StepsMakeTheWhole
steps_make_the_whole step first last file i one ordered =
    pieces_make_the_whole first last (pieces step last first) file.entries file.counted i one ((pieces_are_cut step last first one ordered).joined)

-- what lines of files have
abbrev own : List TableRow → ℕ
own rows = sum_by (λ (row : TableRow). clock_of_file row.of row.clock) rows

own-cons : (row : TableRow) (rows : List TableRow) → own (row ∷ rows) ≡ clock_of_file row.of row.clock + own rows
own-cons row rows = sum_by-cons (λ (r : TableRow). clock_of_file r.of r.clock) row rows

own-append : (xs ys : List TableRow) → own (xs ++ ys) ≡ own xs + own ys
own-append xs ys = sum_by-append (λ (r : TableRow). clock_of_file r.of r.clock) xs ys

one_row : (t : Bool) (file i level clock effort : ℕ) → own (cond t (record { of = Heading file i level; clock = clock; effort = effort } ∷ []) []) ≡ 0
one_row true file i level clock effort = own-cons (record { of = Heading file i level; clock = clock; effort = effort }) []
one_row false file i level clock effort = refl

of_level : (most file i clock effort : ℕ) (level : Option ℕ) → own (level_rows most file i clock effort level) ≡ 0
of_level most file i clock effort None = refl
of_level most file i clock effort (Some level) = one_row (nat_le level most && nat_lt 0 clock) file i level clock effort

headings : (days : ℕ × ℕ) (most file : ℕ) (counted : Counted) (i : ℕ) (es : List Entry) → own (rows_from days most file counted i es) ≡ 0
headings days most file counted i [] = refl
headings days most file counted i (e ∷ es) =
    let here = level_rows most file i (heading_sum (clock_minutes days) counted i) (heading_sum effort_minutes counted i) (level_of e) in
    omega (
      arith,
      own-append here (rows_from days most file counted (i + 1) es),
      of_level most file i (heading_sum (clock_minutes days) counted i) (heading_sum effort_minutes counted i) (level_of e),
      headings days most file counted (i + 1) es,
    )

of_file : (days : ℕ × ℕ) (most file : ℕ) (counted : Counted) → own (file_rows days most file counted) ≡ file_sum (clock_minutes days) counted
of_file days most file counted = by (nat_lt 0 (file_sum (clock_minutes days) counted)) refl
  where
    row : TableRow
    row = record { of = File file; clock = file_sum (clock_minutes days) counted; effort = file_sum effort_minutes counted }

    by : (t : Bool) → nat_lt 0 (file_sum (clock_minutes days) counted) ≡ t → own (cond t (row ∷ rows_from days most file counted 0 counted.entries) []) ≡ file_sum (clock_minutes days) counted
    by true e = omega (arith, own-cons row (rows_from days most file counted 0 counted.entries), headings days most file counted 0 counted.entries)
    by false e = let none : file_sum (clock_minutes days) counted ≤ 0 = grind (arith, nat_tests, e) in omega (arith, none)

of_files : (days : ℕ × ℕ) (most file : ℕ) (files : List Counted) → own (files_rows days most file files) ≡ total (clock_minutes days) files
of_files days most file [] = refl
of_files days most file (c ∷ cs) =
    omega (arith, own-append (file_rows days most file c) (files_rows days most (file + 1) cs), of_file days most file c, of_files days most (file + 1) cs)

pub totals_are_of_files : TotalsAreOfFiles
unfolding step_rows
totals_are_of_files days most files =
    omega (arith, own-cons (record { of = All; clock = total (clock_minutes days) files; effort = total effort_minutes files }) (files_rows days most 0 files), of_files days most 0 files)
