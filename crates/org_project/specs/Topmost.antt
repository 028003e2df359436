-- Headings that are below none of their kind.
use Rattle.std.specs.Prelude.{ℕ, Bool, false, not, ◌&&◌, ◌||◌, List, Option, None, Some, length, map, slice_get}
use Rattle.std.specs.List.{list_any, range_with_len}
use Rattle.org_entry.specs.declared.entry.Entry.{Entry}
use Rattle.org_outline.specs.Levels.{levels}
use Rattle.org_outline.specs.Tree.{ancestors}

-- what a list of flags says at a place; past its end false
abbrev pub flag_in : Option Bool → Bool
flag_in None = false
flag_in (Some b) = b

abbrev pub flag_at : List Bool → ℕ → Bool
flag_at flags i = flag_in (slice_get flags i)

-- an ancestor of entry i is of the kind
abbrev pub is_under : List Entry → List Bool → ℕ → Bool
is_under es kind i = list_any (flag_at kind) (ancestors (levels es) i)

abbrev pub all_under : List Entry → List Bool → List Bool
all_under es kind = map (is_under es kind) (range_with_len 0 (length es))

-- one list of flags says it of a place, and another doesn't
abbrev pub is_first : List Bool → List Bool → ℕ → Bool
is_first of_kind under i = flag_at of_kind i && not (flag_at under i)

-- entry i is of the kind, and no ancestor is
abbrev pub is_topmost : List Entry → List Bool → ℕ → Bool
is_topmost es kind i = flag_at kind i && not (is_under es kind i)

abbrev pub all_topmost : List Entry → List Bool → List Bool
all_topmost es kind = map (is_topmost es kind) (range_with_len 0 (length es))

-- what two lists of flags both say at a place, and what one of them says
abbrev pub both_at : List Bool → List Bool → ℕ → Bool
both_at one other i = flag_at one i && flag_at other i

abbrev pub either_at : List Bool → List Bool → ℕ → Bool
either_at one other i = flag_at one i || flag_at other i

-- what holds of a parent, if there is one
abbrev pub of_parent : Option ℕ → (ℕ → Bool) → Bool
of_parent None holds = false
of_parent (Some p) holds = holds p
