-- The tags so far, and then what is kept of the rest.
use Rattle.std.proofs.Common.{◌≡◌, ◌++◌, drop}
use Rattle.org_amend.specs.WantedTags.{kept_tags}
use Rattle.org_base.specs.Results.{lent_in}
use Rattle.org_amend.proofs.wanted_tags.push_kept.Given as goal

abbrev pub invariant-loop-place : goal.invariant-loop-place
invariant-loop-place l = l.tags ++ kept_tags (lent_in l.removed) (drop l.place l.old) ≡ l.fn.tags ++ kept_tags (lent_in l.removed) l.old
