use Rattle.std.proofs.Common.{◌≡◌, ℕ, ◌≤◌, ◌<◌, get_or, length}
use Rattle.org_outline.specs.Tree.{end_of}
use Rattle.org_outline.proofs.levels.end_table.Given as goal

abbrev pub invariant-loop-place : goal.invariant-loop-place
invariant-loop-place l = record { within : l.place ≤ length l.levels; count : length l.all_ends.items ≡ length l.levels; done : (k : ℕ) → l.place ≤ k → k < length l.levels → get_or l.all_ends.items k 0 ≡ end_of l.levels k }

abbrev pub decreases-loop-place : goal.decreases-loop-place
decreases-loop-place l = l.place
