-- The lines that are left decide, by what was said so far.
use Rattle.std.proofs.Common.{◌≡◌, drop, false}
use Rattle.org_amend.specs.PropertyChanges.{behind_opening, says_once}
use Rattle.org_amend.proofs.changed_nodes.says_once.Given as goal

abbrev pub invariant-loop-place : goal.invariant-loop-place
invariant-loop-place l = says_once l.name l.value l.is_said (drop l.place l.drawer) ≡ says_once l.name l.value false (behind_opening l.drawer)
