-- The tags so far are copied.
use Rattle.std.proofs.Common.{◌≡◌, take}
use Rattle.org_inherit.proofs.tags.copy_tags.Given as goal

abbrev pub invariant-loop-place : goal.invariant-loop-place
invariant-loop-place l = l.copies ≡ take l.place l.tags
