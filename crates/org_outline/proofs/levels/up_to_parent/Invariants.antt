-- No entry from `rest` on, and before the entry, is its parent.
use Rattle.org_outline.proofs.Parents.{NoneFrom}
use Rattle.org_outline.proofs.levels.up_to_parent.Given as goal

abbrev pub invariant-loop-rest : goal.invariant-loop-rest
invariant-loop-rest l = NoneFrom l.levels l.place l.rest

abbrev pub decreases-loop-rest : goal.decreases-loop-rest
decreases-loop-rest l = l.rest
