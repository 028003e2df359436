-- What is unread from the place on is what is unread from the beginning on.
use Rattle.std.proofs.Common.{◌≡◌, ◌≤◌, ◌-◌, length, drop}
use Rattle.org_check.specs.UnreadStamps.{unread_from}
use Rattle.org_check.proofs.unread.next_look.Given as goal

abbrev pub invariant-loop-place : goal.invariant-loop-place
invariant-loop-place l = record {
  from : l.at ≤ l.place;
  within : l.place ≤ length l.line;
  left : unread_from (drop l.at l.line) l.at ≡ unread_from (drop l.place l.line) l.place;
}

abbrev pub decreases-loop-place : goal.decreases-loop-place
decreases-loop-place l = length l.line - l.place
