-- The rows of an answer in an order of one's own (profile).
use Rattle.std.specs.Prelude.{◌≡◌, List, ◌++◌, map}
use Rattle.std.specs.List.Sorted.{IsPermutation, IsSorted, IsStable}
use Rattle.org_layout.specs.declared.shown.Line.{Line}
use Rattle.org_layout.specs.declared.shown.Line.TheVariants.{Row}
use Rattle.org_layout.specs.declared.shown.ShownRow.{ShownRow}
use Rattle.org_order.specs.Order.{row_order}
use Rattle.org_order.specs.declared.ranked.RankedRow.{RankedRow}

-- the line of a row with its ranks
abbrev pub ranked_line : RankedRow ShownRow → Line
ranked_line ranked = Row ranked.row

-- the lines of some rows after others, in the order of their ranks: those with equal ranks stand as they stood
pub record AddsInOrder (old new : List Line) (rows : List ShownRow) : Type 0 where
  pub ranked : List (RankedRow ShownRow)
  pub ordered : List (RankedRow ShownRow)
  pub are : map (λ r. r.row) ranked ≡ rows
  pub same : IsPermutation ranked ordered
  pub order : IsSorted row_order ordered
  pub stable : IsStable row_order ranked ordered
  pub added : new ≡ old ++ map ranked_line ordered
