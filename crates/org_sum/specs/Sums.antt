-- Sums over subtrees (Org manual 9.6, "The clock table").
use Rattle.std.specs.Prelude.{ℕ, zero, suc, ◌+◌, Bool, false, ◌&&◌, ◌||◌, ◌==◌, if◌then◌else◌, Option, None, Some, is_some, List, [], ◌∷◌, length, map}
use Rattle.std.specs.List.{list_any, range_with_len}
use Rattle.org_entry.specs.declared.entry.Entry.{Entry}
use Rattle.org_outline.specs.Levels.{level_of, levels}
use Rattle.org_outline.specs.Tree.{ancestors, parent}
use Rattle.org_sum.specs.Measures.{clock_minutes, effort_minutes}

-- f 0 + f 1 + .., n terms
abbrev pub sum_below : (ℕ → ℕ) → ℕ → ℕ
sum_below f zero = 0
sum_below f (suc n) = sum_below f n + f n

-- what an entry counts: its amount where it is a heading that counts
abbrev pub own : (Entry → ℕ) → Entry → Bool → ℕ
own f e counts = if is_some (level_of e) && counts then f e else 0

-- what the entry at a place counts: its amount where it is a heading that counts
abbrev pub own_at : (Entry → ℕ) → List Entry → List Bool → ℕ → ℕ
own_at f (e ∷ es) (c ∷ cs) zero = if is_some (level_of e) && c then f e else 0
own_at f (e ∷ es) (c ∷ cs) (suc j) = own_at f es cs j
own_at f _ _ j = 0

-- what the entries before each place count, and at the end what all count
abbrev pub sums_before : (Entry → ℕ) → List Entry → List Bool → List ℕ
sums_before f es cs = map (sum_below (own_at f es cs)) (range_with_len 0 (length es + 1))

-- the sum of heading i: over all headings that are i or have i as an ancestor, what they count
abbrev pub subtree_sum : (Entry → ℕ) → List Entry → List Bool → ℕ → ℕ
subtree_sum f es cs i = sum_below (λ j. if (j == i) || list_any (λ k. k == i) (ancestors (levels es) j) then own_at f es cs j else 0) (length es)

-- that of each entry
abbrev pub subtree_sums : (Entry → ℕ) → List Entry → List Bool → List ℕ
subtree_sums f es cs = map (subtree_sum f es cs) (range_with_len 0 (length es))

-- the clock sums of all entries over some days
abbrev pub clock_sums : ℕ × ℕ → List Entry → List Bool → List ℕ
clock_sums days es cs = subtree_sums (clock_minutes days) es cs

-- the effort sums of all entries
abbrev pub effort_sums : List Entry → List Bool → List ℕ
effort_sums es cs = subtree_sums effort_minutes es cs

-- the parent is heading i
abbrev pub is_parent : Option ℕ → ℕ → Bool
is_parent None i = false
is_parent (Some p) i = p == i

-- what the children of heading i have in all: the headings whose parent it is
abbrev pub children_sum : (Entry → ℕ) → List Entry → List Bool → ℕ → ℕ
children_sum f es cs i = sum_below (λ j. if is_parent (parent (levels es) j) i then subtree_sum f es cs j else 0) (length es)

-- what all headings count in all
abbrev pub whole_sum : (Entry → ℕ) → List Entry → List Bool → ℕ
whole_sum f es cs = sum_below (own_at f es cs) (length es)

-- the amounts of all entries, whether they count or not
abbrev pub total : (Entry → ℕ) → List Entry → ℕ
total f [] = 0
total f (e ∷ es) = f e + total f es
