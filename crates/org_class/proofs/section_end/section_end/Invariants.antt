use Rattle.std.proofs.Common.{◌≡◌, ◌-◌, ◌<◌, ◌≤◌, ℕ, ◌==◌, false, slice_index}
use Rattle.org_class.specs.SectionEnds.{ends_before}
use Rattle.org_class.proofs.section_end.section_end.Given as goal

-- no section ends so far
abbrev pub invariant-loop-here : goal.invariant-loop-here
invariant-loop-here g l = record {
  order : l.at < l.here;
  within : l.here ≤ l.end;
  none : (k : ℕ) → l.at < k → k < l.here → ends_before (g.T.Text.content l.text) l.end k ≡ false;
  front : l.at_front ≡ (slice_index (g.T.Text.content l.text) (l.here - 1) == 10);
}

abbrev pub decreases-loop-here : goal.decreases-loop-here
decreases-loop-here g l = l.end - l.here
