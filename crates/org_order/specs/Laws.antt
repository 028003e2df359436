-- Laws about the definitions of this crate.
use Rattle.std.specs.Prelude.{◌≡◌, ℕ, Bool, true, is_none, List, ◌∷◌, None, Some, bytes_eq, position, length}
use Rattle.std.specs.declared.cmp.Ordering.TheVariants.{Less}
use Rattle.std.specs.Ordering.{ordering_then}
use Rattle.std.specs.Cmp.Lexicographic.{slice_cmp}
use Rattle.org_order.specs.Groups.{group_order, groups_of, place_of, places_from, places_in}
use Rattle.org_order.specs.Order.{rank_of, rank_order, value_order}
use Rattle.org_order.specs.declared.groups.GroupPlace.TheVariants.{Named, Unnamed}
use Rattle.org_order.specs.declared.rank.KeyValue.{KeyValue}
use Rattle.org_order.specs.declared.rank.Rank.{Rank}

-- what has nothing for a key stands behind all that has something, whichever way the key goes
abbrev pub MissingIsLast : Type 0
MissingIsLast = (is_down : Bool) (value : KeyValue) → rank_order (rank_of is_down (Some value)) (rank_of is_down None) ≡ Less

-- downward, values stand the other way round
abbrev pub MinusTurnsTheOrder : Type 0
MinusTurnsTheOrder = (x y : KeyValue) → rank_order (rank_of true (Some x)) (rank_of true (Some y)) ≡ value_order y x

-- where rows have equal ranks the next key decides, and else it doesn't count
abbrev pub LaterKeysDecideTies : Type 0
LaterKeysDecideTies = (x y : Rank) (xs ys : List Rank) →
    slice_cmp rank_order (x ∷ xs) (y ∷ ys) ≡ ordering_then (rank_order x y) (slice_cmp rank_order xs ys)

-- a group that is new stands behind all that have a name already
abbrev pub GroupsComeInOrder : Type 0
GroupsComeInOrder = (names : List (List ℕ)) (name : List ℕ) → is_none (position (bytes_eq name) names) ≡ true → place_of names name ≡ length names

-- what is in no group stands behind all groups
abbrev pub UnnamedIsLast : Type 0
UnnamedIsLast = (place : ℕ) → group_order (Named place) Unnamed ≡ Less

-- the rows of all groups are those that were put in, each as often as it has names, and at least once
abbrev pub GroupsHoldTheirRows : Type 0
GroupsHoldTheirRows = (rows : List (List (List ℕ))) → places_in (groups_of rows) ≡ places_from 0 rows
