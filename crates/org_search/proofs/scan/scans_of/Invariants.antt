use Rattle.std.proofs.Common.{◌≡◌, map, take}
use Rattle.org_search.specs.Built.{asked_of}
use Rattle.org_search.proofs.scan.scans_of.Given as goal

abbrev pub invariant-loop-term : goal.invariant-loop-term
invariant-loop-term l = l.scans.items ≡ map asked_of (take l.term-index l.terms)
