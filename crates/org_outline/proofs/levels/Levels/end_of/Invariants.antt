-- All entries so far are below.
use Rattle.std.proofs.Common.{length, ◌-◌}
use Rattle.org_outline.proofs.Ends.{BelowUpTo}
use Rattle.org_outline.proofs.levels.Levels.end_of.Given as goal

abbrev pub invariant-loop-end : goal.invariant-loop-end
invariant-loop-end l = BelowUpTo l.self l.place l.end

abbrev pub decreases-loop-end : goal.decreases-loop-end
decreases-loop-end l = length l.self - l.end
