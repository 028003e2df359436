-- Laws of projects and of tasks that wait (Org manual 9.6, "Stuck projects"; "TODO dependencies").
use Rattle.std.specs.Prelude.{◌≡◌, ℕ, ◌+◌, ◌<◌, ◌≤◌, Bool, true, false, ◌&&◌, ◌||◌, List}
use Rattle.org_entry.specs.declared.entry.Entry.{Entry}
use Rattle.org_outline.specs.Levels.{levels}
use Rattle.org_outline.specs.Tree.{parent}
use Rattle.org_sum.specs.Sums.{own_at}
use Rattle.org_project.specs.Below.{one}
use Rattle.org_project.specs.Blocked.{is_open_between, waits}
use Rattle.org_project.specs.Topmost.{flag_at, is_under, of_parent}

-- a heading waits exactly where its parent is ordered and an open heading stands between the two, or its parent is open and waits
abbrev pub WaitingGoesDown : Type 0
WaitingGoesDown = (es : List Entry) (undone ordered : List Bool) (i : ℕ) →
    waits es undone ordered i
    ≡ of_parent (parent (levels es) i) (λ p. (flag_at ordered p && is_open_between es undone (p + 1) i) || (flag_at undone p && waits es undone ordered p))

-- what stands under one of its kind is told by its parent
abbrev pub UnderGoesDown : Type 0
UnderGoesDown = (es : List Entry) (kind : List Bool) (i : ℕ) → is_under es kind i ≡ of_parent (parent (levels es) i) (λ p. flag_at kind p || is_under es kind p)

-- where no heading from a place on and before another is open, none stands there
abbrev pub NoneIsBetween : Type 0
NoneIsBetween = (es : List Entry) (undone : List Bool) (from to : ℕ) → from ≤ to →
    ((j : ℕ) → from ≤ j → j < to → own_at one es undone j ≡ 0) → is_open_between es undone from to ≡ false

-- where one is, one stands there
abbrev pub OneIsBetween : Type 0
OneIsBetween = (es : List Entry) (undone : List Bool) (from j to : ℕ) → from ≤ j → j < to → own_at one es undone j ≡ 1 → is_open_between es undone from to ≡ true
