use Rattle.std.proofs.Common.{◌≡◌, ◌++◌, map}
use Rattle.org_store.specs.File.{bare}
use Rattle.org_store.proofs.classify.pending_items.Given as goal

abbrev pub invariant-loop-section : goal.invariant-loop-section
invariant-loop-section l = l.all.items ++ map bare l.section-iterator ≡ map bare l.list
