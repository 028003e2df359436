-- The heading is where it is among the lines that are left.
use Rattle.std.proofs.Common.{◌≡◌, ◌≤◌, ◌-◌, drop, length}
use Rattle.org_act.specs.Lines.{heading_from}
use Rattle.org_lines.specs.Cuts.{lines}
use Rattle.org_act.proofs.lines.heading_at.Given as goal

abbrev pub invariant-loop-at : goal.invariant-loop-at
invariant-loop-at l = record {
  within : l.at ≤ length l.text;
  all : heading_from l.left l.at (lines (drop l.at l.text)) ≡ heading_from l.fn.number 0 (lines l.text);
}

abbrev pub decreases-loop-at : goal.decreases-loop-at
decreases-loop-at l = length l.text - l.at
