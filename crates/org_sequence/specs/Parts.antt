-- Parts of a list of items (profile).
use Rattle.std.specs.Prelude.{◌≡◌, ℕ, Bool, ◌+◌, ◌<◌, ◌≤◌, List, [], length, take, drop, slice_index_or, Option, Some, None}
use Rattle.std.specs.List.{sum_by, count_by, position_or_len}
use Rattle.std.specs.declared.rc.Rc.{Rc}
use Rattle.std.specs.Global.{Global}

module _ {T : Type 0} where
  -- the items under a root, of which an empty sequence has none
  abbrev pub items_of : Option (Rc (List T × ℕ) Global) → List T
  items_of None = []
  items_of (Some t) = t.value.0

  -- the item i holds the place: so much is counted before it, and the place comes before its end
  pub record IsItemOf (amount : T → ℕ) (items : List T) (place i before : ℕ) : Type 0 where
    pub within : i < length items
    pub before_is : before ≡ sum_by amount (take i items)
    pub begun : before ≤ place
    pub ended : place < sum_by amount (take (i + 1) items)

  -- the item holds the place, wherever it stands
  pub record HoldsPlace (amount : T → ℕ) (items : List T) (place : ℕ) (item : T) (before : ℕ) : Type 0 where
    pub index : ℕ
    pub holds : IsItemOf amount items place index before
    pub item_is : item ≡ slice_index_or items index item

  -- the first item from a place on that passes, or none where none does
  abbrev pub IsFirstPassing : (T → Bool) → List T → ℕ → Option ℕ → Type 0
  IsFirstPassing passes items at None = count_by passes (drop at items) ≡ 0
  IsFirstPassing passes items at (Some i) = (i ≡ at + position_or_len passes (drop at items)) × (i < length items)
