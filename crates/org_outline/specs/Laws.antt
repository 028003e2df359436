-- Laws of the tree (Org Syntax, "Headings and Sections").
use Rattle.std.specs.Prelude.{◌≡◌, ℕ, ◌+◌, ◌<◌, ◌≤◌, Bool, true, false, ◌==◌, ◌↔◌, Option, Some, None, List, ◌++◌, is_some, length, map}
use Rattle.std.specs.List.{list_any}
use Rattle.org_outline.specs.Tree.{level_at, is_smaller, parent, end_of, ancestors, up_from}

-- j is the nearest heading before i that has a smaller level; what stands between is no heading or has none
pub record IsNearestSmaller (ls : List (Option ℕ)) (i j : ℕ) : Type 0 where
  pub earlier : j < i
  pub smaller : is_smaller (level_at ls j) (level_at ls i) ≡ true
  pub nearest : (k : ℕ) → j < k → k < i → is_smaller (level_at ls k) (level_at ls i) ≡ false

-- no heading before i has a smaller level
abbrev pub NoneIsSmaller : List (Option ℕ) → ℕ → Type 0
NoneIsSmaller ls i = (k : ℕ) → k < i → is_smaller (level_at ls k) (level_at ls i) ≡ false

-- the parent is the nearest earlier heading of a smaller level, and missing exactly where there is no such heading
abbrev pub ParentIsNearest : Type 0
ParentIsNearest = (ls : List (Option ℕ)) (i : ℕ) →
    ((j : ℕ) → (parent ls i ≡ Some j) ↔ IsNearestSmaller ls i j) × ((parent ls i ≡ None) ↔ NoneIsSmaller ls i)

-- the ancestors are the parent, if there is one, and its ancestors
abbrev pub AncestorsAreParentsUp : Type 0
AncestorsAreParentsUp = (ls : List (Option ℕ)) (i : ℕ) → ancestors ls i ≡ up_from ls (parent ls i)

-- entry i is an ancestor of entry j
abbrev pub is_above : List (Option ℕ) → ℕ → ℕ → Bool
is_above ls i j = list_any (λ k. k == i) (ancestors ls j)

-- an ancestor stands earlier and is a heading of a smaller level
abbrev pub AncestorsFall : Type 0
AncestorsFall = (ls : List (Option ℕ)) (i j : ℕ) → is_above ls i j ≡ true → (i < j) × (is_smaller (level_at ls i) (level_at ls j) ≡ true)

-- an ancestor of an ancestor is an ancestor
abbrev pub AncestorsOfAncestors : Type 0
AncestorsOfAncestors = (ls : List (Option ℕ)) (i j k : ℕ) → is_above ls i j ≡ true → is_above ls j k ≡ true → is_above ls i k ≡ true

-- the entries that have i as an ancestor are the headings after it, up to its subtree's end
abbrev pub SubtreeIsWhatIsBelow : Type 0
SubtreeIsWhatIsBelow = (ls : List (Option ℕ)) (i j : ℕ) →
    (is_above ls i j ≡ true) ↔ ((i < j) × (j < end_of ls i) × (is_some (level_at ls j) ≡ true))

-- what stands at the end of a heading's subtree is a heading that isn't below it
abbrev pub EndIsNotBelow : Type 0
EndIsNotBelow = (ls : List (Option ℕ)) (i : ℕ) → is_some (level_at ls i) ≡ true → end_of ls i < length ls →
    (is_some (level_at ls (end_of ls i)) ≡ true) × (is_above ls i (end_of ls i) ≡ false)

-- of two subtrees the later one ends within the earlier one, or begins after it
abbrev pub SubtreesNest : Type 0
SubtreesNest = (ls : List (Option ℕ)) (i j : ℕ) → i < j → j < end_of ls i → end_of ls j ≤ end_of ls i

-- an entry that is no heading has no parent, and its end is right after it
abbrev pub OthersStandAlone : Type 0
OthersStandAlone = (ls : List (Option ℕ)) (i : ℕ) → level_at ls i ≡ None → (parent ls i ≡ None) × (end_of ls i ≡ i + 1)

-- a tree begins after the entries: its first is a heading, and none of them has a smaller level
abbrev pub BeginsTree : List (Option ℕ) → List (Option ℕ) → Type 0
BeginsTree xs ys = (is_some (level_at ys 0) ≡ true) × ((j : ℕ) → is_smaller (level_at xs j) (level_at ys 0) ≡ false)

-- what stands before a tree has no say in it
abbrev pub TreesStandAlone : Type 0
TreesStandAlone = (xs ys : List (Option ℕ)) (k : ℕ) → BeginsTree xs ys → ancestors (xs ++ ys) (length xs + k) ≡ map (λ i. length xs + i) (ancestors ys k)

-- what stands after an entry has no say in its ancestors
abbrev pub LaterHasNoSay : Type 0
LaterHasNoSay = (xs ys : List (Option ℕ)) (k : ℕ) → k < length xs → ancestors (xs ++ ys) k ≡ ancestors xs k
