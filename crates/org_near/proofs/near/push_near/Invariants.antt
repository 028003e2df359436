use Rattle.std.proofs.Common.{◌≡◌, ◌++◌, drop}
use Rattle.org_near.specs.Near.{asked_of}
use Rattle.org_near.proofs.near.push_near.Given as goal

abbrev pub invariant-loop-source : goal.invariant-loop-source
invariant-loop-source l = l.sources.items ++ asked_of l.asked (drop l.source-index l.some) ≡ l.fn.sources.items ++ asked_of l.asked l.some
