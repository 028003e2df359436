-- One file more, and one entry more.
use Rattle.std.proofs.Common.{true, ◌≡◌, ◌∙◌, ℕ, ◌+◌, ◌<◌, ◌≤◌, List, [], ◌∷◌, ◌++◌, length, drop, get_or, sym, ap, arith, append_assoc, append-nil}
use Rattle.std.specs.Prelude.{nat_lt}
use Rattle.std.proofs.lemmas.Bool.Decides.{nat_tests}
use Rattle.std.proofs.lemmas.List.{drop_more, drop_all}
use Rattle.org_clocktable.specs.declared.row.Of.TheVariants.{File}
use Rattle.org_clocktable.specs.declared.row.TableRow.{TableRow}
use Rattle.org_entry.specs.declared.entry.Entry.{Entry}
use Rattle.org_outline.specs.Levels.{level_of}
use Rattle.org_sum.specs.Measures.{clock_minutes, effort_minutes}
use Rattle.org_clocktable.specs.Counted.{Counted, file_sum, heading_sum, total}
use Rattle.org_clocktable.specs.Table.{file_rows, files_rows, level_rows}
use Rattle.org_clocktable.proofs.TableWords.{rows_from}

-- what is left at a place
drop_here : {X : Type 0} (xs : List X) (i : ℕ) (x : X) → i < length xs → x ≡ get_or xs i x → drop i xs ≡ x ∷ drop (i + 1) xs
drop_here xs i x lt is = drop_more xs i x lt ∙ ap (λ y. y ∷ drop (i + 1) xs) (sym is)

-- the sum so far, and that of the files that are left, are all
pub total_more : (f : Entry → ℕ) (files : List Counted) (i : ℕ) (c : Counted) (old all : ℕ) → i < length files → c ≡ get_or files i c →
    old + total f (drop i files) ≡ all → old + file_sum f c + total f (drop (i + 1) files) ≡ all
total_more f files i c old all lt is so_far =
    let here : total f (drop i files) ≡ file_sum f c + total f (drop (i + 1) files) = ap (total f) (drop_here files i c lt is) in
    omega (arith, here, so_far)

pub total_whole : (f : Entry → ℕ) (files : List Counted) (i sum all : ℕ) → length files ≤ i → sum + total f (drop i files) ≡ all → sum ≡ all
total_whole f files i sum all le so_far =
    let rest : total f (drop i files) ≡ 0 = ap (total f) (drop_all i files le) in
    omega (arith, rest, so_far)

pub files_more : (days : ℕ × ℕ) (most : ℕ) (files : List Counted) (i : ℕ) (c : Counted) → i < length files → c ≡ get_or files i c →
    files_rows days most i (drop i files) ≡ file_rows days most i c ++ files_rows days most (i + 1) (drop (i + 1) files)
files_more days most files i c lt is = ap (files_rows days most i) (drop_here files i c lt is)

pub entries_more : (days : ℕ × ℕ) (most file : ℕ) (counted : Counted) (i : ℕ) (e : Entry) → i < length counted.entries → e ≡ get_or counted.entries i e →
    rows_from days most file counted i (drop i counted.entries)
    ≡ level_rows most file i (heading_sum (clock_minutes days) counted i) (heading_sum effort_minutes counted i) (level_of e) ++ rows_from days most file counted (i + 1) (drop (i + 1) counted.entries)
entries_more days most file counted i e lt is = ap (rows_from days most file counted i) (drop_here counted.entries i e lt is)

-- what was added to a list belongs to what is left
pub moved : {X : Type 0} (old new here rest left all : List X) → new ≡ old ++ here → left ≡ here ++ rest → old ++ left ≡ all → new ++ rest ≡ all
moved old new here rest left all added split so_far =
    ap (λ xs. xs ++ rest) added ∙ append_assoc old here rest ∙ ap (λ xs. old ++ xs) (sym split) ∙ so_far

pub ended : {X : Type 0} (xs left all : List X) → left ≡ [] → xs ++ left ≡ all → xs ≡ all
ended xs left all none so_far = sym (append-nil xs) ∙ ap (λ ys. xs ++ ys) (sym none) ∙ so_far

positive : (x : ℕ) → 0 < x → nat_lt 0 x ≡ true
positive x h = grind (arith, nat_tests)

file_step : (days : ℕ × ℕ) (most place : ℕ) (counted : Counted) (clock effort : ℕ) → clock ≡ file_sum (clock_minutes days) counted → effort ≡ file_sum effort_minutes counted → 0 < clock →
    file_rows days most place counted ≡ record { of = File place; clock = clock; effort = effort } ∷ rows_from days most place counted 0 counted.entries
file_step days most place counted clock effort k m pos =
    rw (positive (file_sum (clock_minutes days) counted) (omega (arith, k, pos)))
    (λ i. record { of = File place; clock = sym k i; effort = sym m i } ∷ rows_from days most place counted 0 counted.entries)

-- the row of a file, and those of its headings
pub file_shown : (days : ℕ × ℕ) (most place : ℕ) (counted : Counted) (clock effort : ℕ) (old pushed new : List TableRow) → clock ≡ file_sum (clock_minutes days) counted → effort ≡ file_sum effort_minutes counted → 0 < clock →
    pushed ≡ old ++ record { of = File place; clock = clock; effort = effort } ∷ [] → new ≡ pushed ++ rows_from days most place counted 0 counted.entries → new ≡ old ++ file_rows days most place counted
file_shown days most place counted clock effort old pushed new k m pos p q =
    q ∙ ap (λ xs. xs ++ rows_from days most place counted 0 counted.entries) p
    ∙ append_assoc old (record { of = File place; clock = clock; effort = effort } ∷ []) (rows_from days most place counted 0 counted.entries)
    ∙ ap (λ xs. old ++ xs) (sym (file_step days most place counted clock effort k m pos))
