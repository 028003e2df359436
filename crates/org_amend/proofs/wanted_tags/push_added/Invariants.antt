-- The tags so far, and then those that come of the rest.
use Rattle.std.proofs.Common.{◌≡◌, ◌++◌, drop}
use Rattle.org_amend.specs.WantedTags.{added_tags}
use Rattle.org_base.specs.Results.{lent_in}
use Rattle.org_amend.proofs.wanted_tags.push_added.Given as goal

abbrev pub invariant-loop-word : goal.invariant-loop-word
invariant-loop-word l =
    l.tags ++ added_tags l.old (lent_in l.removed) (lent_in (drop l.word-index l.added)) ≡ l.fn.tags ++ added_tags l.old (lent_in l.removed) (lent_in l.added)
