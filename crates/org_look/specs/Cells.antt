-- Which line of a cell shows what.
use Rattle.std.specs.Prelude.{◌≡◌, ℕ, ◌+◌, ◌-◌, ◌<◌, ◌&&◌, ◌==◌, nat_le, nat_lt, if◌then◌else◌}
use Rattle.org_look.specs.declared.cell.Shape.{Shape}
use Rattle.org_look.specs.declared.cell.Content.{Content}
use Rattle.org_look.specs.declared.cell.Content.TheVariants.{Row, Others, Note, Blank}

-- behind the lanes the rows that are shown, then the number of the others; at the foot the notes
abbrev pub foot_of : Shape → ℕ → Content
foot_of shape place = if nat_lt place shape.height && nat_le shape.height (place + shape.notes) then Note (place + shape.notes - shape.height) else Blank

abbrev pub content_of : Shape → ℕ → Content
content_of shape place =
    if nat_lt place shape.lanes then foot_of shape place
    else if nat_lt (place - shape.lanes) shape.shown then Row (place - shape.lanes)
    else if (place - shape.lanes == shape.shown) && nat_lt 0 shape.left then Others
    else foot_of shape place

-- each row that is shown has a line of its own, in order, and the number of the others has one, where there are any
abbrev pub RowsHaveLines : Type 0
RowsHaveLines = (shape : Shape) (k : ℕ) → k < shape.shown → content_of shape (shape.lanes + k) ≡ Row k

abbrev pub OthersHaveALine : Type 0
OthersHaveALine = (shape : Shape) → 0 < shape.left → content_of shape (shape.lanes + shape.shown) ≡ Others
