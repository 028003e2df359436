use Rattle.std.proofs.Common.{◌≡◌, map}
use Rattle.std.specs.List.{range_with_len}
use Rattle.org_outline.specs.Parents.{up_to_parent}
use Rattle.org_outline.proofs.levels.parent_table.Given as goal

abbrev pub invariant-loop-place : goal.invariant-loop-place
invariant-loop-place l = l.parents.items ≡ map (up_to_parent l.levels) (range_with_len 0 l.place)
