use Rattle.std.proofs.Common.{◌≡◌, map}
use Rattle.std.specs.List.{range_with_len}
use Rattle.org_project.specs.Below.{below}
use Rattle.org_project.proofs.below.tasks_below.Given as goal

abbrev pub invariant-loop-i : goal.invariant-loop-i
invariant-loop-i l = l.below.items ≡ map (below l.outline l.counted) (range_with_len 0 l.i)
