use Rattle.std.proofs.Common.{◌≤◌, length}
use Rattle.org_history.proofs.change.newest_changes.Given as goal

abbrev pub invariant-loop : goal.invariant-loop
invariant-loop l = (l.len ≤ length l.changes) × (l.len ≤ l.most_bytes)
