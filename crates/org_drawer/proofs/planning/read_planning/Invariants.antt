-- The pairs so far, and those that are left, are all.
use Rattle.std.proofs.Common.{◌≡◌, ◌≤◌, ◌-◌, length, drop}
use Rattle.org_stamp.specs.Pair.{pairs_from, pairs}
use Rattle.org_drawer.specs.Planning.{planned, AreInside}
use Rattle.org_drawer.proofs.PlanningLemmas.{with_left}
use Rattle.org_drawer.proofs.planning.read_planning.Given as goal

abbrev pub invariant-loop-pair : goal.invariant-loop-pair
invariant-loop-pair l = record {
  in_line : l.at ≤ length l.line;
  left : with_left l.planning (pairs_from (drop l.at l.line) l.at 0) ≡ planned (pairs l.line);
  inside : AreInside l.line l.planning;
}

abbrev pub decreases-loop-pair : goal.decreases-loop-pair
decreases-loop-pair l = length l.line - l.at
