-- What lengths of bars say of the sums.
use Rattle.std.specs.Prelude.{◌≡◌, ◌<◌, ◌≤◌, ◌↔◌, ℕ, ◌+◌, ◌*◌, List}
use Rattle.std.specs.List.{sum}
use Rattle.org_client.specs.Bars.{bar_eighths, part_lengths, share_of}

-- a length is the nearest: twice its distance from the exact one is at most one
abbrev pub LengthsAreNearest : Type 0
LengthsAreNearest = (part whole units : ℕ) → 0 < whole →
    (2 * (share_of part whole units * whole) ≤ 2 * (part * units) + whole) × (2 * (part * units) ≤ 2 * (share_of part whole units * whole) + whole)

-- longer sums have no shorter bars, and none is longer than the room
abbrev pub BarsFollowSums : Type 0
BarsFollowSums = (a b most columns : ℕ) → a ≤ b → 0 < columns →
    (bar_eighths a most columns ≤ bar_eighths b most columns) × (bar_eighths b most columns ≤ columns * 8)

-- a bar has no length exactly where its sum is nothing
abbrev pub NothingHasNoBar : Type 0
NothingHasNoBar = (minutes most columns : ℕ) → (bar_eighths minutes most columns ≡ 0) ↔ (minutes ≡ 0)

-- the parts of a stacked bar are together as long as their sum asks for, which is no greater than the greatest
abbrev pub PartsAddUp : Type 0
PartsAddUp = (sums : List ℕ) (most columns : ℕ) → sum sums ≤ most → sum (part_lengths most columns sums) ≡ share_of (sum sums) most columns
