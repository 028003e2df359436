-- The stamps so far, with those that are left.
use Rattle.std.proofs.Common.{◌≡◌, ◌++◌, drop}
use Rattle.org_client.specs.Components.{task_stamps}
use Rattle.org_client.proofs.components.task_stamps.Given as goal

abbrev pub invariant-loop-stamp : goal.invariant-loop-stamp
invariant-loop-stamp l = l.some.items ++ task_stamps (drop l.stamp-index l.stamps) ≡ task_stamps l.stamps
