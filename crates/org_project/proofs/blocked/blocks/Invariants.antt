use Rattle.std.proofs.Common.{◌≡◌, map}
use Rattle.std.specs.List.{range_with_len}
use Rattle.org_project.specs.Blocked.{block_in}
use Rattle.org_project.proofs.blocked.blocks.Given as goal

abbrev pub invariant-loop-i : goal.invariant-loop-i
invariant-loop-i l = l.blocks.items ≡ map (block_in l.outline l.tasks) (range_with_len 0 l.i)
