-- The groups so far, with those of the words that are left.
use Rattle.std.proofs.Common.{◌≡◌, ◌++◌, drop, map}
use Rattle.org_overview.specs.Groups.{group_marks, named_marks}
use Rattle.org_overview.proofs.tasks.named_groups.Given as goal

abbrev pub invariant-loop-place : goal.invariant-loop-place
invariant-loop-place g l = map group_marks l.groups.items ++ named_marks l.seen.files.now.files l.seen.scopes.now l.rows (drop l.place l.names) ≡ named_marks l.seen.files.now.files l.seen.scopes.now l.rows l.names
