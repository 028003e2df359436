-- Rows with hours in boxes, and rows that have none.
use Rattle.std.specs.Prelude.{◌≡◌, ◌⊎◌, Bool, if◌then◌else◌, List, [], ◌∷◌, ◌++◌, IfOk, OnOk, Result, length, map, reverse}
use Rattle.org_page.specs.declared.day.Boxed.{Boxed}
use Rattle.org_page.specs.declared.place.Placed.{Placed}
use Rattle.org_page.specs.declared.row.Row.{Row}

-- the items that are picked, and the others, each in their order
abbrev pub picked : {X : Type 0} → List Bool → List X → List X
picked [] xs = []
picked (pick ∷ picks) [] = []
picked (pick ∷ picks) (x ∷ xs) = if pick then x ∷ picked picks xs else picked picks xs

abbrev pub left : {X : Type 0} → List Bool → List X → List X
left [] xs = []
left (pick ∷ picks) [] = []
left (pick ∷ picks) (x ∷ xs) = if pick then left picks xs else x ∷ left picks xs

-- each item is in one of two lists, once, and in both they keep their order
pub record AreDealt {X : Type 0} (all one two : List X) : Type 0 where
  pub picks : List Bool
  pub count : length picks ≡ length all
  pub first : one ≡ picked picks all
  pub second : two ≡ left picks all

abbrev pub box_row : Boxed → Row
box_row boxed = boxed.row

abbrev pub boxes_rows : List Boxed → List Row
boxes_rows boxes = map box_row boxes

-- the same where both have the last items first
abbrev pub AreDealtUp : List Row → List Boxed → List Row → Type 0
AreDealtUp rows boxes beside = AreDealt rows (boxes_rows (reverse boxes)) (reverse beside)

-- a row is put after those in boxes, or after the others
abbrev pub IsInBox : Row → List Boxed → List Boxed → Type 0
IsInBox row old new = (boxed : Boxed) × (boxed.row ≡ row) × (new ≡ old ++ boxed ∷ [])

abbrev pub IsPut : Row → List Boxed → List Boxed → List Row → List Row → Type 0
IsPut row old_boxes new_boxes old_beside new_beside =
    (IsInBox row old_boxes new_boxes × (new_beside ≡ old_beside)) ⊎ ((new_boxes ≡ old_boxes) × (new_beside ≡ old_beside ++ row ∷ []))

abbrev pub PutsRow : {T E : Type 0} → Result T E → Row → Placed → Placed → Type 0
PutsRow result row old new = OnOk result (IsPut row old.boxes.items new.boxes.items old.beside.items new.beside.items)

abbrev pub GivesDealt : {E : Type 0} → Result Placed E → List Row → Type 0
GivesDealt result rows = IfOk result (λ placed. AreDealt rows (boxes_rows placed.boxes.items) placed.beside.items)

abbrev pub GivesDealtUp : {E : Type 0} → Result Placed E → List Row → Type 0
GivesDealtUp result rows = IfOk result (λ placed. AreDealtUp rows placed.boxes.items placed.beside.items)
