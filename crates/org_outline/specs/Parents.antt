-- How an outline keeps parents (profile).
use Rattle.std.specs.Prelude.{ℕ, List, Option, map, length}
use Rattle.std.specs.List.{range_with_len}
use Rattle.org_outline.specs.Places.{behind}
use Rattle.org_outline.specs.Tree.{parent}

-- how many entries there are up to the parent of an entry, with it; 0 where it has none
abbrev pub up_to_parent : List (Option ℕ) → ℕ → ℕ
up_to_parent ls i = behind (parent ls i)

-- the same of all entries, by their places
abbrev pub all_up_to_parent : List (Option ℕ) → List ℕ
all_up_to_parent ls = map (up_to_parent ls) (range_with_len 0 (length ls))
