-- Worked examples: what the definitions say of inputs at which a wrong rule says something else.
use Rattle.std.specs.Prelude.{◌≡◌, true, false, [], ◌∷◌, None, Some, codes}
use Rattle.std.specs.declared.cmp.Ordering.TheVariants.{Less, Equal, Greater}
use Rattle.std.specs.Cmp.Lexicographic.{slice_cmp}
use Rattle.org_order.specs.Groups.{group_order, grouped_order, groups_of, name_at}
use Rattle.org_order.specs.Order.{rank_of, rank_order, value_order}
use Rattle.org_order.specs.declared.groups.GroupPlace.TheVariants.{Named, Unnamed}
use Rattle.org_order.specs.declared.rank.KeyValue.TheVariants.{Number}
use Rattle.org_order.specs.declared.rank.Rank.TheVariants.{Missing}

pub record ExamplesHold : Type 0 where
  -- numbers stand by their size, not by their digits
  pub by_size : value_order (Number 9) (Number 10) ≡ Less
  pub up : rank_order (rank_of false (Some (Number 9))) (rank_of false (Some (Number 10))) ≡ Less
  pub down : rank_order (rank_of true (Some (Number 9))) (rank_of true (Some (Number 10))) ≡ Greater
  -- what has none is last also where the key goes down
  pub none_up : rank_order (rank_of false (Some (Number 10))) (rank_of false None) ≡ Less
  pub none_down : rank_order (rank_of true (Some (Number 10))) (rank_of true None) ≡ Less
  pub none_twice : rank_order (rank_of true None) (rank_of true None) ≡ Equal
  -- the second key decides a tie alone
  pub second : slice_cmp rank_order (Missing ∷ rank_of false (Some (Number 2)) ∷ []) (Missing ∷ rank_of false (Some (Number 1)) ∷ []) ≡ Greater
  pub first : slice_cmp rank_order (rank_of false (Some (Number 1)) ∷ Missing ∷ []) (rank_of false (Some (Number 2)) ∷ rank_of false (Some (Number 1)) ∷ []) ≡ Less
  -- groups stand in the order in which they came, and what is in none stands last
  pub groups : groups_of ((codes "b" ∷ []) ∷ [] ∷ (codes "a" ∷ codes "b" ∷ []) ∷ [])
      ≡ record {
        names = codes "b" ∷ codes "a" ∷ [];
        rows = record { group = Named 0; place = 0 } ∷ record { group = Unnamed; place = 1 } ∷ record { group = Named 1; place = 2 } ∷ record { group = Named 0; place = 2 } ∷ [];
      }
  pub unnamed_last : group_order Unnamed (Named 7) ≡ Greater
  pub by_place : grouped_order (record { group = Named 0; place = 2 }) (record { group = Named 0; place = 1 }) ≡ Greater
  pub by_group : grouped_order (record { group = Named 0; place = 2 }) (record { group = Named 1; place = 1 }) ≡ Less
  pub named : name_at (codes "b" ∷ codes "a" ∷ []) (Named 1) ≡ Some (codes "a")
  pub unnamed : name_at (codes "b" ∷ codes "a" ∷ []) Unnamed ≡ None
