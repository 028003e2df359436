-- The tags so far, and then those that are left.
use Rattle.std.proofs.Common.{◌≡◌, ◌++◌, drop}
use Rattle.org_inherit.specs.Tags.{closed_tags}
use Rattle.org_inherit.proofs.tags.push_closed.Given as goal

abbrev pub invariant-loop-place : goal.invariant-loop-place
invariant-loop-place l = l.text.items ++ closed_tags (drop l.place l.tags) ≡ l.fn.text.items ++ closed_tags l.tags
