-- The lines so far, and then those that come of the rest.
use Rattle.std.proofs.Common.{◌≡◌, ◌++◌, drop, false}
use Rattle.org_amend.specs.PropertyChanges.{behind_opening, changed_from}
use Rattle.org_amend.proofs.changed_nodes.push_nodes.Given as goal

abbrev pub invariant-loop-place : goal.invariant-loop-place
invariant-loop-place l =
    l.lines.items ++ changed_from l.name l.node l.is_put (drop l.place l.drawer) ≡ l.fn.lines.items ++ changed_from l.name l.node false (behind_opening l.drawer)
