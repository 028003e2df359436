use Rattle.std.proofs.Common.{◌≡◌, map}
use Rattle.std.specs.List.{range_with_len}
use Rattle.org_sum.specs.Sums.{own_at, sum_below}
use Rattle.org_project.specs.Below.{one}
use Rattle.org_project.proofs.below.counted_before.Given as goal

abbrev pub invariant-loop-i : goal.invariant-loop-i
invariant-loop-i l = record { sum : l.sum ≡ sum_below (own_at one l.outline l.counted) l.i; before : l.before.items ≡ map (sum_below (own_at one l.outline l.counted)) (range_with_len 0 l.i) }
