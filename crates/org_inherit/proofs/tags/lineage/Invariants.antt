-- The places so far, and those on the way up from the next one.
use Rattle.std.proofs.Common.{◌≡◌, ◌++◌, ◌≤◌, Some, length}
use Rattle.org_outline.specs.Levels.{levels}
use Rattle.org_outline.specs.Places.{behind}
use Rattle.org_outline.specs.Tree.{up_from}
use Rattle.org_inherit.proofs.tags.lineage.Given as goal

abbrev pub invariant-loop-next : goal.invariant-loop-next
invariant-loop-next l = record {
  within : behind l.next ≤ length l.outline;
  rest : l.line.items ++ up_from (levels l.outline) l.next ≡ up_from (levels l.outline) (Some l.fn.place);
}

abbrev pub decreases-loop-next : goal.decreases-loop-next
decreases-loop-next l = behind l.next
