-- What has moved so far, and what moves of the pairs that are left, is what moves of all.
use Rattle.std.proofs.Common.{◌≡◌, ◌++◌, ◌≤◌, ◌-◌, length, drop}
use Rattle.org_act.specs.Moved.{moved_in, moved_pairs}
use Rattle.org_stamp.specs.Pair.{pairs_from}
use Rattle.org_act.proofs.moved.moved_pairs.Given as goal

abbrev pub invariant-loop-pair : goal.invariant-loop-pair
invariant-loop-pair l = record {
  in_old : l.old_at ≤ length l.old;
  in_new : l.at ≤ length l.new;
  all : l.moved.items ++ moved_in l.old l.new (pairs_from (drop l.old_at l.old) l.old_at 0) (pairs_from (drop l.at l.new) l.at 0) ≡ moved_pairs l.old l.new;
}

abbrev pub decreases-loop-pair : goal.decreases-loop-pair
decreases-loop-pair l = length l.new - l.at
