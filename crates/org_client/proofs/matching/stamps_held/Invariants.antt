-- Those of the stamps so far.
use Rattle.std.proofs.Common.{◌≡◌, take}
use Rattle.std.specs.Prelude.{filter}
use Rattle.org_client.specs.Matching.{is_of_matching}
use Rattle.org_client.proofs.matching.stamps_held.Given as goal

abbrev pub invariant-loop-stamp : goal.invariant-loop-stamp
invariant-loop-stamp l = l.some.items ≡ filter (is_of_matching l.held) (take l.stamp-index l.stamps)
