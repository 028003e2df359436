-- Rows of cells.
use Rattle.std.proofs.Common.{◌≡◌, ℕ, ◌+◌, ◌≤◌, Bool, true, false, cond, List, [], ◌∷◌, ◌++◌, refl, sym, ap, ◌∙◌, length, string_bytes, arith}
use Rattle.std.proofs.lemmas.List.{length-take-le}
use Rattle.std.proofs.lemmas.Bool.Decides.{nat_tests}
use Rattle.org_look.specs.Entries.{is_own, own_labels, joined_lists, shown_count, left_count, AllAreCounted, CellsFit, CellsHoldRows}
use Rattle.org_look.specs.declared.entry.Entry.{Entry}

labels_join : (own : Bool) (label : List ℕ) (xs ys : List (List ℕ)) → cond own (label ∷ xs) xs ++ ys ≡ cond own (label ∷ (xs ++ ys)) (xs ++ ys)
labels_join true label xs ys = refl
labels_join false label xs ys = refl

own-append : (xs ys : List Entry) → own_labels (xs ++ ys) ≡ own_labels xs ++ own_labels ys
own-append [] ys = refl
own-append (x ∷ xs) ys =
    ap (λ labels. cond (is_own x) (string_bytes x.label ∷ labels) labels) (own-append xs ys)
    ∙ sym (labels_join (is_own x) (string_bytes x.label) (own_labels xs) (own_labels ys))

pub cells_hold_rows : CellsHoldRows
cells_hold_rows [] = refl
cells_hold_rows (day ∷ days) = ap (λ rest. own_labels day ++ rest) (cells_hold_rows days) ∙ sym (own-append day (joined_lists days))

shown_le : (count bars room : ℕ) → shown_count count bars room ≤ count
shown_le count bars room = grind (arith, nat_tests)

pub cells_fit : CellsFit
cells_fit count bars room some = grind (arith, nat_tests)

pub all_are_counted : AllAreCounted
all_are_counted labels bars room =
    let le = shown_le (length labels) bars room in
    ap (λ n. n + left_count (length labels) bars room) (length-take-le (shown_count (length labels) bars room) labels le) ∙ omega (arith, le)
