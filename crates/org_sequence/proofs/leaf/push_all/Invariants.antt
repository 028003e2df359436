use Rattle.std.proofs.Common.{◌≡◌, ◌++◌, take}
use Rattle.org_sequence.proofs.leaf.push_all.Given as goal

abbrev pub invariant-loop-item : goal.invariant-loop-item
invariant-loop-item g l = l.into.items ≡ l.initial.into.items ++ take l.item-index l.items
