use Rattle.std.proofs.Common.{◌≡◌, map}
use Rattle.std.specs.List.{range_with_len}
use Rattle.org_project.specs.Topmost.{is_under}
use Rattle.org_project.proofs.outermost.under_kind.Given as goal

abbrev pub invariant-loop-i : goal.invariant-loop-i
invariant-loop-i l = l.under.items ≡ map (is_under l.outline l.of_kind) (range_with_len 0 l.i)
