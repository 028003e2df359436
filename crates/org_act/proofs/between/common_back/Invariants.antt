-- So far both have the same.
use Rattle.std.proofs.Common.{◌-◌, ◌≡◌, ◌≤◌, length, drop}
use Rattle.org_act.proofs.between.common_back.Given as goal

abbrev pub invariant-loop-len : goal.invariant-loop-len
invariant-loop-len l = record {
  in_one : l.len ≤ length l.one;
  in_other : l.len ≤ length l.other;
  same : drop (length l.one - l.len) l.one ≡ drop (length l.other - l.len) l.other;
}

abbrev pub decreases-loop-len : goal.decreases-loop-len
decreases-loop-len l = length l.one - l.len
