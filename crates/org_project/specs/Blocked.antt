-- Tasks that can't be done yet (Org manual 9.6, "TODO dependencies").
use Rattle.std.specs.Prelude.{ℕ, ◌+◌, Bool, false, ◌&&◌, ◌||◌, nat_lt, if◌then◌else◌, List, [], ◌∷◌, Option, None, Some, length, map, slice_get}
use Rattle.std.specs.List.{range_with_len}
use Rattle.org_entry.specs.declared.entry.Entry.{Entry}
use Rattle.org_outline.specs.Levels.{levels}
use Rattle.org_outline.specs.Tree.{ancestors}
use Rattle.org_sum.specs.Sums.{own_at, sum_below}
use Rattle.org_project.specs.Below.{below, one}
use Rattle.org_project.specs.Topmost.{both_at, flag_at}
use Rattle.org_project.specs.declared.blocked.Block.{Block}
use Rattle.org_project.specs.declared.blocked.Tasks.{Tasks}
use Rattle.org_project.specs.declared.blocked.Block.TheVariants.{Below, Before}

-- an open heading stands from a place on and before another
abbrev pub is_open_between : List Entry → List Bool → ℕ → ℕ → Bool
is_open_between es undone from to = nat_lt (sum_below (own_at one es undone) from) (sum_below (own_at one es undone) to)

-- entry i waits, if these are its ancestors, the nearest first: the nearest is ordered and an open heading stands between the two, or
-- it is open and waits itself
abbrev pub waits_under : List Entry → List Bool → List Bool → ℕ → List ℕ → Bool
waits_under es undone ordered i [] = false
waits_under es undone ordered i (p ∷ ps) =
    (flag_at ordered p && is_open_between es undone (p + 1) i) || (flag_at undone p && waits_under es undone ordered p ps)

abbrev pub waits : List Entry → List Bool → List Bool → ℕ → Bool
waits es undone ordered i = waits_under es undone ordered i (ancestors (levels es) i)

-- the same by what is told of the entries
abbrev pub waits_in : List Entry → Tasks → ℕ → Bool
waits_in es tasks i = waits es tasks.undone.now tasks.ordered.now i

abbrev pub all_waiting : List Entry → Tasks → List Bool
all_waiting es tasks = map (waits_in es tasks) (range_with_len 0 (length es))

-- why an entry is blocked: it is open, so many headings below it are open, or it waits
abbrev pub block_of : Bool → ℕ → Bool → Option Block
block_of undone below waiting = if undone then (if nat_lt 0 below then Some Below else (if waiting then Some Before else None)) else None

abbrev pub block_at : List Entry → List Bool → List Bool → ℕ → Option Block
block_at es undone ordered i = block_of (flag_at undone i) (below es undone i) (waits es undone ordered i)

abbrev pub block_in : List Entry → Tasks → ℕ → Option Block
block_in es tasks i = block_at es tasks.undone.now tasks.ordered.now i

abbrev pub all_blocks : List Entry → Tasks → List (Option Block)
all_blocks es tasks = map (block_in es tasks) (range_with_len 0 (length es))

-- what a list of counts says at a place; past its end 0
abbrev pub count_in : Option ℕ → ℕ
count_in None = 0
count_in (Some count) = count

abbrev pub count_at : List ℕ → ℕ → ℕ
count_at counts i = count_in (slice_get counts i)

-- a count at one place is less than that at another
abbrev pub is_more : List ℕ → ℕ → ℕ → Bool
is_more counts one other = nat_lt (count_at counts one) (count_at counts other)

-- why the entry at a place is blocked, by lists for all
abbrev pub block_by : List Bool → List ℕ → List Bool → ℕ → Option Block
block_by undone counts waiting i = block_of (flag_at undone i) (count_at counts i) (flag_at waiting i)

-- a parent is ordered, and more are open before an entry than before what follows the parent
abbrev pub is_ahead : List Bool → List ℕ → ℕ → ℕ → Bool
is_ahead ordered counts p i = flag_at ordered p && is_more counts (p + 1) i

-- an entry waits for the sake of a parent, by lists for all
abbrev pub waits_by : Tasks → List ℕ → List Bool → ℕ → ℕ → Bool
waits_by tasks counts waiting i p = is_ahead tasks.ordered.now counts p i || both_at tasks.undone.now waiting p
