-- The components so far, with those of the stamps that are left.
use Rattle.std.proofs.Common.{◌≡◌, ◌++◌, drop, map}
use Rattle.org_client.specs.Components.{tasks_of}
use Rattle.org_ical.specs.Components.{component_text}
use Rattle.org_client.proofs.components.push_tasks.Given as goal

abbrev pub invariant-loop-stamp : goal.invariant-loop-stamp
invariant-loop-stamp l =
    map component_text l.all.items ++ tasks_of l.inherits l.asked (drop l.stamp-index l.stamps) ≡ map component_text l.fn.all.items ++ tasks_of l.inherits l.asked l.stamps
