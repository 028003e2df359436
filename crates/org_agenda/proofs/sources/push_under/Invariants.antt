use Rattle.std.proofs.Common.{◌≡◌, ◌++◌, map, take}
use Rattle.org_agenda.specs.Sources.{under}
use Rattle.org_agenda.proofs.sources.push_under.Given as goal

abbrev pub invariant-loop-stamp : goal.invariant-loop-stamp
invariant-loop-stamp l = l.own.items ≡ l.fn.own.items ++ map (under l.owner) (take l.stamp-index l.stamps)
