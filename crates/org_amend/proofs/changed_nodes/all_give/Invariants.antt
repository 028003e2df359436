-- The lines that are left decide.
use Rattle.std.proofs.Common.{◌≡◌, drop}
use Rattle.org_amend.specs.PropertyChanges.{all_give, behind_opening}
use Rattle.org_amend.proofs.changed_nodes.all_give.Given as goal

abbrev pub invariant-loop-place : goal.invariant-loop-place
invariant-loop-place l = all_give l.name (drop l.place l.drawer) ≡ all_give l.name (behind_opening l.drawer)
