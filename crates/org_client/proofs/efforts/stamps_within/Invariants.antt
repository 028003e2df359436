-- Those of the stamps so far.
use Rattle.std.proofs.Common.{◌≡◌, take}
use Rattle.std.specs.Prelude.{filter}
use Rattle.org_client.specs.Efforts.{is_of_stamp}
use Rattle.org_client.proofs.efforts.stamps_within.Given as goal

abbrev pub invariant-loop-stamp : goal.invariant-loop-stamp
invariant-loop-stamp l = l.some.items ≡ filter (is_of_stamp l.efforts l.inherits) (take l.stamp-index l.stamps)
