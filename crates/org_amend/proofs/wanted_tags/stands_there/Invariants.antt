-- The tags that are left decide.
use Rattle.std.proofs.Common.{◌≡◌, drop}
use Rattle.org_amend.specs.WantedTags.{has_tag}
use Rattle.org_amend.proofs.wanted_tags.stands_there.Given as goal

abbrev pub invariant-loop-place : goal.invariant-loop-place
invariant-loop-place l = has_tag (drop l.place l.tags) l.tag ≡ has_tag l.tags l.tag
