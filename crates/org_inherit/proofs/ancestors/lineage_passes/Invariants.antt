-- The entry at the next place and its ancestors decide.
use Rattle.std.proofs.Common.{◌≡◌, ◌≤◌, length, map, get_or, false}
use Rattle.std.specs.List.{list_any}
use Rattle.org_outline.specs.Places.{behind}
use Rattle.org_outline.specs.Levels.{levels}
use Rattle.org_outline.specs.Tree.{up_from}
use Rattle.org_inherit.specs.Tables.{one_passes, passes}
use Rattle.org_inherit.proofs.ancestors.lineage_passes.Given as goal

abbrev pub invariant-loop-next : goal.invariant-loop-next
invariant-loop-next l = record {
  within : behind l.next ≤ length l.outline;
  rest : list_any (λ j. get_or (map (passes l.test) l.outline) j false) (up_from (levels l.outline) l.next) ≡ one_passes (passes l.test) l.outline l.fn.place;
}

abbrev pub decreases-loop-next : goal.decreases-loop-next
decreases-loop-next l = behind l.next
