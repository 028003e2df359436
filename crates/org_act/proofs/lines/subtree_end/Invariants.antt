-- The subtree ends where it does among the lines that are left.
use Rattle.std.proofs.Common.{◌≡◌, ◌≤◌, ◌-◌, drop, length}
use Rattle.org_act.specs.Lines.{subtree_end}
use Rattle.org_lines.specs.Cuts.{lines}
use Rattle.org_act.proofs.lines.subtree_end.Given as goal

abbrev pub invariant-loop-at : goal.invariant-loop-at
invariant-loop-at l = record {
  within : l.at ≤ length l.text;
  all : subtree_end l.level l.at (lines (drop l.at l.text)) ≡ subtree_end l.level l.from (lines (drop l.from l.text));
}

abbrev pub decreases-loop-at : goal.decreases-loop-at
decreases-loop-at l = length l.text - l.at
