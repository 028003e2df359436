-- The rows of groups.
use Rattle.std.proofs.Common.{◌≡◌, ◌∙◌, ap, sym}
use Rattle.std.specs.Prelude.{ℕ, suc, List, [], ◌∷◌, ◌++◌}
use Rattle.std.proofs.lemmas.List.{append-nil, append_assoc, map_push}
use Rattle.org_order.specs.Groups.{GroupsView, as_often, groups_from, once_at_least, place_of, places_from, places_in, with_all, with_names, with_row}
use Rattle.org_order.specs.Laws.{GroupsHoldTheirRows}
use Rattle.org_order.specs.declared.groups.GroupPlace.TheVariants.{Named, Unnamed}

one_more : (groups : GroupsView) (name : List ℕ) (place : ℕ) → places_in (with_row groups name place) ≡ places_in groups ++ place ∷ []
one_more groups name place = map_push (λ r. r.place) groups.rows (record { group = Named (place_of groups.names name); place = place })

-- the places after rows with each of these names
more : (groups : GroupsView) (names : List (List ℕ)) (place : ℕ) → places_in (with_names groups names place) ≡ places_in groups ++ as_often names place
more groups [] place = sym (append-nil (places_in groups))
more groups (name ∷ names) place =
    more (with_row groups name place) names place
    ∙ ap (λ front. front ++ as_often names place) (one_more groups name place)
    ∙ append_assoc (places_in groups) (place ∷ []) (as_often names place)

-- and of one that may have none
each : (groups : GroupsView) (names : List (List ℕ)) (place : ℕ) → places_in (with_all groups names place) ≡ places_in groups ++ once_at_least names place
each groups [] place = map_push (λ r. r.place) groups.rows (record { group = Unnamed; place = place })
each groups (name ∷ names) place = more groups (name ∷ names) place

from_place : (groups : GroupsView) (place : ℕ) (rows : List (List (List ℕ))) → places_in (groups_from groups place rows) ≡ places_in groups ++ places_from place rows
from_place groups place [] = sym (append-nil (places_in groups))
from_place groups place (names ∷ rows) =
    from_place (with_all groups names place) (suc place) rows
    ∙ ap (λ front. front ++ places_from (suc place) rows) (each groups names place)
    ∙ append_assoc (places_in groups) (once_at_least names place) (places_from (suc place) rows)

pub groups_hold_their_rows : GroupsHoldTheirRows
groups_hold_their_rows rows = from_place (record { names = []; rows = [] }) 0 rows
