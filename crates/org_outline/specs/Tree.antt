-- The tree that the levels of entries give (Org Syntax, "Headings and Sections"; that levels may skip: Org manual 9.6,
-- "Headlines"). An entry that is no heading has no level.
use Rattle.std.specs.Prelude.{ℕ, zero, suc, ◌+◌, ◌-◌, Bool, true, false, nat_lt, nat_le, Option, Some, None, List, [], ◌∷◌, length, map, get_or, ◌≡◌, ◌<◌, slice_index}
use Rattle.std.specs.List.{range_with_len}
use Rattle.org_outline.specs.Places.{greatest_below, least_from}

-- the level of the entry at a place; none where it is no heading, and past the end
abbrev pub level_at : List (Option ℕ) → ℕ → Option ℕ
level_at ls i = get_or ls i None

-- both are headings, and the first has the smaller level
abbrev pub is_smaller : Option ℕ → Option ℕ → Bool
is_smaller (Some a) (Some b) = nat_lt a b
is_smaller _ _ = false

-- the parent: the greatest earlier heading of a smaller level, if there is one
abbrev pub parent : List (Option ℕ) → ℕ → Option ℕ
parent ls i = greatest_below (λ j. is_smaller (get_or ls j None) (get_or ls i None)) i

-- what stands later ends the subtree: a heading that isn't of a larger level; an entry that is no heading has no subtree
abbrev pub ends : Option ℕ → Option ℕ → Bool
ends (Some a) (Some b) = nat_le b a
ends (Some a) None = false
ends None b = true

-- where the subtree ends: the first later heading that isn't below the entry, else the number of entries
abbrev pub end_of : List (Option ℕ) → ℕ → ℕ
end_of ls i = least_from (λ j. ends (level_at ls i) (level_at ls j)) (i + 1) (length ls - (i + 1))

-- the same of all entries, by their places
abbrev pub all_ends : List (Option ℕ) → List ℕ
all_ends ls = map (end_of ls) (range_with_len 0 (length ls))

-- the parent, its parent and so on, at most n of them
abbrev pub chain : List (Option ℕ) → ℕ → ℕ → List ℕ
chain ls zero i = []
chain ls (suc n) i = elim (parent ls i) [ None ↦ [] | Some j ↦ j ∷ chain ls n j ]

-- the ancestors, the nearest first; so many steps are enough, since a parent stands earlier
abbrev pub ancestors : List (Option ℕ) → ℕ → List ℕ
ancestors ls i = chain ls i i

-- a place, its parent and so on; none where there is no place
abbrev pub up_from : List (Option ℕ) → Option ℕ → List ℕ
up_from ls None = []
up_from ls (Some j) = j ∷ ancestors ls j

-- the table has the subtree ends of the entries after a place
abbrev pub AreEndsBehind : List (Option ℕ) → ℕ → List ℕ → Type 0
AreEndsBehind levels place ends = (k : ℕ) → place < k → k < length levels → slice_index ends k ≡ end_of levels k
