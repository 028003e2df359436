-- Rows with hours by their marks.
use Rattle.std.proofs.Common.{◌≡◌, ◌∙◌, Bool, true, false, List, [], ◌∷◌, length, map, ap, refl, sym}
use Rattle.std.proofs.lemmas.List.{length-map}
use Rattle.org_overview.specs.Here.{box_mark}
use Rattle.org_overview.specs.Marks.{Mark, shown_mark, shown_marks}
use Rattle.org_page.specs.Places.{AreDealt, boxes_rows, left, picked}
use Rattle.org_page.specs.declared.day.Boxed.{Boxed}
use Rattle.org_page.specs.declared.row.Row.{Row as PageRow}

picked_map : {X Y : Type 0} (f : X → Y) (picks : List Bool) (xs : List X) → picked picks (map f xs) ≡ map f (picked picks xs)
picked_map f [] xs = refl
picked_map f (pick ∷ picks) [] = refl
picked_map f (true ∷ picks) (x ∷ xs) = ap (λ ys. f x ∷ ys) (picked_map f picks xs)
picked_map f (false ∷ picks) (x ∷ xs) = picked_map f picks xs

left_map : {X Y : Type 0} (f : X → Y) (picks : List Bool) (xs : List X) → left picks (map f xs) ≡ map f (left picks xs)
left_map f [] xs = refl
left_map f (pick ∷ picks) [] = refl
left_map f (true ∷ picks) (x ∷ xs) = left_map f picks xs
left_map f (false ∷ picks) (x ∷ xs) = ap (λ ys. f x ∷ ys) (left_map f picks xs)

boxes_marks : (boxes : List Boxed) → map box_mark boxes ≡ shown_marks (boxes_rows boxes)
boxes_marks [] = refl
boxes_marks (b ∷ bs) = ap (λ ms. shown_mark b.row ∷ ms) (boxes_marks bs)

-- what is dealt of rows is dealt of their marks
pub dealt_marks : (marks : List Mark) (rows : List PageRow) (boxes : List Boxed) (beside : List PageRow) → shown_marks rows ≡ marks →
    AreDealt rows (boxes_rows boxes) beside → AreDealt marks (map box_mark boxes) (shown_marks beside)
dealt_marks marks rows boxes beside are dealt = record {
  picks = dealt.picks;
  count = dealt.count ∙ sym (length-map rows shown_mark) ∙ ap length are;
  first = boxes_marks boxes ∙ ap shown_marks dealt.first ∙ sym (picked_map shown_mark dealt.picks rows) ∙ ap (picked dealt.picks) are;
  second = ap shown_marks dealt.second ∙ sym (left_map shown_mark dealt.picks rows) ∙ ap (left dealt.picks) are;
}
