-- What a tree is seen as, and what holds of it.
use Rattle.std.specs.Prelude.{◌≡◌, ℕ, Bool, zero, suc, ◌+◌, ◌<◌, ◌≤◌, max, List, ◌++◌, length}
use Rattle.org_sequence.specs.declared.tree.Node.{Node}
use Rattle.org_sequence.specs.declared.tree.Node.TheVariants.{Leaf, Fork}
use Rattle.org_sequence.specs.declared.tree.TheConstants.{MAX_LEAF}
use Rattle.org_sequence.specs.declared.sums.Sums.{Sums}
use Rattle.org_sequence.specs.Sums.{AreSums}

-- neither height is more than this above the other
abbrev pub DifferByAtMost : ℕ → ℕ → ℕ → Type 0
DifferByAtMost by l r = (l ≤ r + by) × (r ≤ l + by)

-- the least number of leaves that a tree of a height has
abbrev pub least : ℕ → ℕ
least zero = 1
least (suc zero) = 2
least (suc (suc h)) = least (suc h) + least h

-- the height h of what two trees of these heights become together
abbrev pub IsHeightNear : ℕ → ℕ → ℕ → Type 0
IsHeightNear l r h = (max l r ≤ h) × (h ≤ max l r + 1)

-- and where they need no rotation it is one more than theirs
abbrev pub IsHeightAfter : ℕ → ℕ → ℕ → Type 0
IsHeightAfter l r h = (max l r ≤ h) × (h ≤ max l r + 1) × (DifferByAtMost 1 l r → h ≡ max l r + 1)

module _ {T : Type 0} where
  -- the items in order, and the height
  abbrev pub items_and_height : Node T → List T × ℕ
  items_and_height (Leaf items sums) = (items.items, 0)
  items_and_height (Fork l r sums h) = (l.value.0 ++ r.value.0, h)

  -- what two trees of nearly one height are side by side
  abbrev pub forked : List T × ℕ → List T × ℕ → List T × ℕ
  forked l r = (l.0 ++ r.0, max l.1 r.1 + 1)

  -- a leaf has some items, not too many, and knows their sums
  pub record IsLeaf (size lines : T → ℕ) (pending flagged : T → Bool) (items : List T) (s : Sums) : Type 0 where
    pub some : 0 < length items
    pub few : length items ≤ MAX_LEAF
    pub sums : AreSums size lines pending flagged items s

  -- a fork knows the sums of both sides: neither is empty, and they are balanced
  pub record IsFork (size lines : T → ℕ) (pending flagged : T → Bool) (l r : List T × ℕ) (s : Sums) (h : ℕ) : Type 0 where
    pub sums : AreSums size lines pending flagged (l.0 ++ r.0) s
    pub height_is : h ≡ max l.1 r.1 + 1
    pub heights : DifferByAtMost 1 l.1 r.1
    pub left : 0 < length l.0
    pub right : 0 < length r.0
    pub low : h < s.count
    pub shallow : least h ≤ s.count

  abbrev pub IsTree : (T → ℕ) → (T → ℕ) → (T → Bool) → (T → Bool) → Node T → Type 0
  IsTree size lines pending flagged (Leaf items sums) = IsLeaf size lines pending flagged items.items sums
  IsTree size lines pending flagged (Fork l r sums h) = IsFork size lines pending flagged l.value r.value sums h
