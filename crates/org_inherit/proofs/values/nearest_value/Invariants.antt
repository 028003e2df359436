-- The entry at the next place and its ancestors decide.
use Rattle.std.proofs.Common.{◌≡◌, ◌≤◌, length}
use Rattle.org_outline.specs.Places.{behind}
use Rattle.org_outline.specs.Levels.{levels}
use Rattle.org_outline.specs.Tree.{up_from}
use Rattle.org_inherit.specs.Values.{first_of, own_value, nearest_value}
use Rattle.org_inherit.proofs.values.nearest_value.Given as goal

abbrev pub invariant-loop-next : goal.invariant-loop-next
invariant-loop-next l = record {
  within : behind l.next ≤ length l.outline;
  rest : first_of (own_value l.outline l.name) (up_from (levels l.outline) l.next) ≡ nearest_value l.outline l.name l.fn.place;
}

abbrev pub decreases-loop-next : goal.decreases-loop-next
decreases-loop-next l = behind l.next
