use Rattle.std.proofs.Common.{◌≡◌, ◌++◌, take}
use Rattle.org_entry.specs.Active.{plain_stamps}
use Rattle.org_entry.proofs.active.push_plain.Given as goal

abbrev pub invariant-loop-found : goal.invariant-loop-found
invariant-loop-found l = l.own.items ≡ l.fn.own.items ++ plain_stamps l.opens (take l.found-index l.stamps)
