use Rattle.std.proofs.Common.{◌≡◌, ◌-◌, ◌<◌, ◌≤◌, ℕ, false, length}
use Rattle.org_class.specs.SectionEnds.{has_line_star}
use Rattle.org_class.proofs.section_end.line_star.Given as goal

-- a line begins at no star so far
abbrev pub invariant-loop-from : goal.invariant-loop-from
invariant-loop-from l = record {
  within : l.from ≤ length l.run;
  none : (k : ℕ) → k < l.from → has_line_star l.at_front l.run k ≡ false;
}

abbrev pub decreases-loop-from : goal.decreases-loop-from
decreases-loop-from l = length l.run - l.from
