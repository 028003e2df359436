-- The order of rows by their keys (profile): as the derived comparisons have it, by variants first and then by fields.
use Rattle.std.specs.Prelude.{Bool, true, false, Option, None, Some}
use Rattle.std.specs.Cmp.Lexicographic.{slice_cmp}
use Rattle.std.specs.declared.cmp.Ordering.{Ordering}
use Rattle.org_order.specs.declared.rank.KeyValue.{KeyValue}
use Rattle.org_order.specs.declared.rank.Rank.{Rank}
use Rattle.org_order.specs.declared.rank.Rank.TheVariants.{Up, Down, Missing}
use Rattle.org_order.specs.declared.ranked.RankedRow.{RankedRow}
use Rattle.org_order.specs.contracts.rank.KeyValueOrd.TheImpl as value_ord
use Rattle.org_order.specs.contracts.rank.RankOrd.TheImpl as rank_ord

-- of two values: numbers by size, texts by their bytes
abbrev pub value_order : KeyValue → KeyValue → Ordering
value_order = (value_ord.ghosts).cmp

-- of where two rows stand by a key
abbrev pub rank_order : Rank → Rank → Ordering
rank_order = (rank_ord.ghosts).cmp

-- of two rows: by their ranks, the first ones first
abbrev pub row_order : {T : Type 0} → RankedRow T → RankedRow T → Ordering
row_order x y = slice_cmp rank_order x.ranks.items y.ranks.items

-- where a row stands that has a value or none, for a key that goes down or up
abbrev pub rank_of : Bool → Option KeyValue → Rank
rank_of is_down None = Missing
rank_of true (Some value) = Down (record { 0 = value })
rank_of false (Some value) = Up value
