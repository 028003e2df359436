-- How many headings below a heading count, and which headings are stuck (Org manual 9.6, "Stuck projects").
use Rattle.std.specs.Prelude.{ℕ, Bool, ◌==◌, List, length, map}
use Rattle.std.specs.List.{range_with_len}
use Rattle.org_entry.specs.declared.entry.Entry.{Entry}
use Rattle.org_sum.specs.Sums.{children_sum, subtree_sum, sums_before}

-- each heading is one
abbrev pub one : Entry → ℕ
one e = 1

-- how many of the headings below heading i count: those of the subtrees of its children
abbrev pub below : List Entry → List Bool → ℕ → ℕ
below es counted i = children_sum one es counted i

abbrev pub all_below : List Entry → List Bool → List ℕ
all_below es counted = map (below es counted) (range_with_len 0 (length es))

-- how many headings before each place count, and at the end how many in all
abbrev pub counted_before : List Entry → List Bool → List ℕ
counted_before es counted = sums_before one es counted

-- no heading of the subtree keeps it going
abbrev pub is_stuck : List Entry → List Bool → ℕ → Bool
is_stuck es moving i = subtree_sum one es moving i == 0

abbrev pub all_stuck : List Entry → List Bool → List Bool
all_stuck es moving = map (is_stuck es moving) (range_with_len 0 (length es))
