use Rattle.std.proofs.Common.{◌≡◌, map}
use Rattle.std.specs.List.{range_with_len}
use Rattle.org_project.specs.Below.{is_stuck}
use Rattle.org_project.proofs.below.stuck.Given as goal

abbrev pub invariant-loop-i : goal.invariant-loop-i
invariant-loop-i l = l.stuck.items ≡ map (is_stuck l.outline l.moving) (range_with_len 0 l.i)
