-- The words that are left decide.
use Rattle.std.proofs.Common.{◌≡◌, drop}
use Rattle.org_amend.specs.WantedTags.{has_tag}
use Rattle.org_base.specs.Results.{lent_in}
use Rattle.org_amend.proofs.wanted_tags.is_among.Given as goal

abbrev pub invariant-loop-word : goal.invariant-loop-word
invariant-loop-word l = has_tag (lent_in (drop l.word-index l.words)) l.tag ≡ has_tag (lent_in l.words) l.tag
