-- The tags so far are in the set.
use Rattle.std.proofs.Common.{take}
use Rattle.std.specs.Prelude.{Some}
use Rattle.org_inherit.specs.Seen.{AreSeen}
use Rattle.org_inherit.proofs.first_tags.set_of.Given as goal

abbrev pub invariant-loop-place : goal.invariant-loop-place
invariant-loop-place l = AreSeen (Some l.set.keys) (take l.place l.tags)
