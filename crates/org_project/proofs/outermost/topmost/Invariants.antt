use Rattle.std.proofs.Common.{◌≡◌, map}
use Rattle.std.specs.List.{range_with_len}
use Rattle.org_project.specs.Topmost.{is_topmost}
use Rattle.org_project.proofs.outermost.topmost.Given as goal

abbrev pub invariant-loop-i : goal.invariant-loop-i
invariant-loop-i l = l.topmost.items ≡ map (is_topmost l.outline l.of_kind) (range_with_len 0 l.i)
