-- Groups of rows (profile).
use Rattle.std.specs.Prelude.{ℕ, suc, if◌then◌else◌, is_some, List, [], ◌∷◌, ◌++◌, Option, None, bytes_eq, length, map, position, slice_get, unwrap_or}
use Rattle.std.specs.declared.cmp.Ordering.{Ordering}
use Rattle.org_order.specs.declared.groups.GroupPlace.{GroupPlace}
use Rattle.org_order.specs.declared.groups.GroupPlace.TheVariants.{Named, Unnamed}
use Rattle.org_order.specs.declared.groups.GroupedRow.{GroupedRow}
use Rattle.org_order.specs.contracts.groups.GroupPlaceOrd.TheImpl as place_ord
use Rattle.org_order.specs.contracts.groups.GroupedRowOrd.TheImpl as row_ord

-- names in the order in which they came, and rows with their groups
pub record GroupsView : Type 0 where
  pub names : List (List ℕ)
  pub rows : List GroupedRow

-- of two groups: by the places of their names, what has none last
abbrev pub group_order : GroupPlace → GroupPlace → Ordering
group_order = (place_ord.ghosts).cmp

-- of two rows in groups: by their groups, and then by their places
abbrev pub grouped_order : GroupedRow → GroupedRow → Ordering
grouped_order = (row_ord.ghosts).cmp

-- the place of a name, the next one where it is new
abbrev pub place_of : List (List ℕ) → List ℕ → ℕ
place_of names name = unwrap_or (position (bytes_eq name) names) (length names)

-- the names with one more, where it is new
abbrev pub named_with : List (List ℕ) → List ℕ → List (List ℕ)
named_with names name = if is_some (position (bytes_eq name) names) then names else names ++ name ∷ []

abbrev pub with_name : GroupsView → List ℕ → GroupsView
with_name groups name = record { names = named_with groups.names name; rows = groups.rows }

-- with a row in the group of a name
abbrev pub with_row : GroupsView → List ℕ → ℕ → GroupsView
with_row groups name place =
    record { names = named_with groups.names name; rows = groups.rows ++ record { group = Named (place_of groups.names name); place = place } ∷ [] }

-- with one in no group
abbrev pub without_name : GroupsView → ℕ → GroupsView
without_name groups place = record { names = groups.names; rows = groups.rows ++ record { group = Unnamed; place = place } ∷ [] }

-- the name of a group, if it has one
abbrev pub name_at : List (List ℕ) → GroupPlace → Option (List ℕ)
name_at names (Named place) = slice_get names place
name_at names Unnamed = None

-- with a row in each group of its names, in none where it has no name
abbrev pub with_names : GroupsView → List (List ℕ) → ℕ → GroupsView
with_names groups [] place = groups
with_names groups (name ∷ names) place = with_names (with_row groups name place) names place

abbrev pub with_all : GroupsView → List (List ℕ) → ℕ → GroupsView
with_all groups [] place = without_name groups place
with_all groups (name ∷ names) place = with_names groups (name ∷ names) place

-- the groups of rows by the names of each, from a place on
abbrev pub groups_from : GroupsView → ℕ → List (List (List ℕ)) → GroupsView
groups_from groups place [] = groups
groups_from groups place (names ∷ rest) = groups_from (with_all groups names place) (suc place) rest

abbrev pub groups_of : List (List (List ℕ)) → GroupsView
groups_of rows = groups_from (record { names = []; rows = [] }) 0 rows

-- a place as often as there are names, and once where there is none
abbrev pub as_often : List (List ℕ) → ℕ → List ℕ
as_often [] place = []
as_often (name ∷ names) place = place ∷ as_often names place

abbrev pub once_at_least : List (List ℕ) → ℕ → List ℕ
once_at_least [] place = place ∷ []
once_at_least (name ∷ names) place = as_often (name ∷ names) place

-- so those of rows with these names, from a place on
abbrev pub places_from : ℕ → List (List (List ℕ)) → List ℕ
places_from place [] = []
places_from place (names ∷ rest) = once_at_least names place ++ places_from (suc place) rest

-- the places of rows in groups
abbrev pub places_in : GroupsView → List ℕ
places_in groups = map (λ r. r.place) groups.rows
