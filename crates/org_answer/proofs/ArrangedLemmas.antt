-- Rows that are put in order are the rows that there were.
use Rattle.std.proofs.Common.{◌≡◌, ◌∙◌, List, [], ◌∷◌, ◌++◌, map, ap, sym, subst, refl, append_assoc, append-nil}
use Rattle.std.specs.List.Sorted.{IsPermutation, IsSorted, IsStable}
use Rattle.std.proofs.lemmas.List.{map_push}
use Rattle.std.proofs.lemmas.List.Sorted.{IsPermutation-append_left, IsPermutation-append_right, IsPermutation-trans, IsPermutation-map}
use Rattle.org_answer.specs.Arranged.{AddsInOrder, ranked_line}
use Rattle.org_layout.specs.declared.shown.Line.{Line}
use Rattle.org_layout.specs.declared.shown.Line.TheVariants.{Row}
use Rattle.org_layout.specs.declared.shown.ShownRow.{ShownRow}
use Rattle.org_order.specs.Order.{row_order}
use Rattle.org_order.specs.declared.ranked.RankedRow.{RankedRow}

-- a row more that waits
pub row_more : (done out : List Line) (rows : List ShownRow) (shown : ShownRow) → IsPermutation done (out ++ map Row rows) → IsPermutation (done ++ Row shown ∷ []) (out ++ map Row (rows ++ shown ∷ []))
row_more done out rows shown same =
    subst (IsPermutation (done ++ Row shown ∷ []))
    (append_assoc out (map Row rows) (Row shown ∷ []) ∙ ap (λ t. out ++ t) (sym (map_push Row rows shown)))
    (IsPermutation-append_left (Row shown ∷ []) done (out ++ map Row rows) same)

lines_of : (ranked : List (RankedRow ShownRow)) → map ranked_line ranked ≡ map Row (map (λ r. r.row) ranked)
lines_of [] = refl
lines_of (r ∷ ranked) = ap (λ rest. Row r.row ∷ rest) (lines_of ranked)

-- the lines that are put down are those of the rows that waited
same_lines : (old new : List Line) (rows : List ShownRow) → (adds : AddsInOrder old new rows) → IsPermutation (map Row rows) (map ranked_line adds.ordered)
same_lines old new rows adds =
    subst (λ lines. IsPermutation lines (map ranked_line adds.ordered)) (lines_of adds.ranked ∙ ap (map Row) adds.are)
    (IsPermutation-map ranked_line adds.ranked adds.ordered adds.same)

-- those that waited are put down
pub put_down : (done old new : List Line) (rows : List ShownRow) → IsPermutation done (old ++ map Row rows) → AddsInOrder old new rows → IsPermutation done new
put_down done old new rows same adds =
    subst (IsPermutation done) (sym adds.added)
    (IsPermutation-trans done (old ++ map Row rows) (old ++ map ranked_line adds.ordered) same
    (IsPermutation-append_right old (map Row rows) (map ranked_line adds.ordered) (same_lines old new rows adds)))

-- a line that is no row
pub line_more : (done out : List Line) (line : Line) → IsPermutation done out → IsPermutation (done ++ line ∷ []) ((out ++ line ∷ []) ++ map Row [])
line_more done out line same =
    subst (IsPermutation (done ++ line ∷ [])) (sym (append-nil (out ++ line ∷ []))) (IsPermutation-append_left (line ∷ []) done out same)

pub in_order : (rows : List ShownRow) (ranked ordered : List (RankedRow ShownRow)) (old new : List Line) → map (λ r. r.row) ranked ≡ rows → IsPermutation ranked ordered →
    IsSorted row_order ordered → IsStable row_order ranked ordered → new ≡ old ++ map ranked_line ordered → AddsInOrder old new rows
in_order rows ranked ordered old new are same order stable added = record {
  ranked = ranked;
  ordered = ordered;
  are = are;
  same = same;
  order = order;
  stable = stable;
  added = added;
}
