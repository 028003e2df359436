use Rattle.std.proofs.Common.{length, ◌-◌}
use Rattle.org_outline.proofs.Ends.{BelowUpTo}
use Rattle.org_outline.proofs.levels.end_from.Given as goal

abbrev pub invariant-loop-end : goal.invariant-loop-end
invariant-loop-end l = BelowUpTo l.levels l.place l.end

abbrev pub decreases-loop-end : goal.decreases-loop-end
decreases-loop-end l = length l.levels - l.end
