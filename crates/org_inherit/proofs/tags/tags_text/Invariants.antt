-- The tags so far are written.
use Rattle.std.proofs.Common.{◌≡◌, take}
use Rattle.org_inherit.specs.Tags.{tags_text}
use Rattle.org_inherit.proofs.tags.tags_text.Given as goal

abbrev pub invariant-loop-place : goal.invariant-loop-place
invariant-loop-place l = l.text.items ≡ tags_text (take l.place l.tags)
