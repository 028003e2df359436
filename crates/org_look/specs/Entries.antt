-- Which rows of a day its cell holds.
use Rattle.std.specs.Prelude.{◌≡◌, ℕ, ◌+◌, ◌-◌, ◌<◌, ◌≤◌, ◌++◌, Bool, true, false, ◌&&◌, ◌==◌, nat_le, if◌then◌else◌, min, List, [], ◌∷◌, length, map, take}
use Rattle.std.specs.String.{string_bytes}
use Rattle.org_look.specs.declared.entry.Entry.{Entry}
use Rattle.org_look.specs.declared.entry.Stand.TheVariants.{Own, Range, Late, Soon}

-- a row of the day itself, and no day of a range
abbrev pub is_own : Entry → Bool
is_own entry = elim entry.stand as (λ _. Bool) [ Own ↦ true | Range day of ↦ false | Late ↦ false | Soon ↦ false ]

-- the labels of the rows that a cell holds
abbrev pub own_labels : List Entry → List (List ℕ)
own_labels [] = []
own_labels (entry ∷ entries) = if is_own entry then string_bytes entry.label ∷ own_labels entries else own_labels entries

-- how many rows of so many are shown, where there is room for so many lines and so many bars have none: all, if they and no bar
-- fit, else as many as leave a line for the number of the others
abbrev pub shown_count : ℕ → ℕ → ℕ → ℕ
shown_count count bars room = if (bars == 0) && nat_le count room then count else min count (room - 1)

-- the number of all others
abbrev pub left_count : ℕ → ℕ → ℕ → ℕ
left_count count bars room = (count - shown_count count bars room) + bars

-- lists one behind the other
abbrev pub joined_lists : {A : Type 0} → List (List A) → List A
joined_lists [] = []
joined_lists (xs ∷ rest) = xs ++ joined_lists rest

-- the rows of the cells, joined in the order of days, are the rows of the days but for ranges, late ones and warnings, each once
abbrev pub CellsHoldRows : Type 0
CellsHoldRows = (days : List (List Entry)) → joined_lists (map own_labels days) ≡ own_labels (joined_lists days)

-- no row is left out without being counted: those that are shown and the number of the others are all rows and bars
abbrev pub AllAreCounted : Type 0
AllAreCounted = (labels : List (List ℕ)) (bars room : ℕ) →
    length (take (shown_count (length labels) bars room) labels) + left_count (length labels) bars room ≡ length labels + bars

-- what is shown takes no more lines than there is room for, the line of the others with it
abbrev pub CellsFit : Type 0
CellsFit = (count bars room : ℕ) → 0 < room → shown_count count bars room + min 1 (left_count count bars room) ≤ room
