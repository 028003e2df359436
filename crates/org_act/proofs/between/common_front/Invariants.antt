-- So far both have the same.
use Rattle.std.proofs.Common.{◌-◌, ◌≡◌, ◌≤◌, length, take}
use Rattle.org_act.proofs.between.common_front.Given as goal

abbrev pub invariant-loop-len : goal.invariant-loop-len
invariant-loop-len l = record {
  in_one : l.len ≤ length l.one;
  in_other : l.len ≤ length l.other;
  same : take l.len l.one ≡ take l.len l.other;
}

abbrev pub decreases-loop-len : goal.decreases-loop-len
decreases-loop-len l = length l.one - l.len
