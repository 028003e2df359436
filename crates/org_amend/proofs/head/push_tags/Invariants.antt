-- The tags so far, and then those that are left.
use Rattle.std.proofs.Common.{◌≡◌, ◌++◌, drop}
use Rattle.std.specs.Prelude.{string_bytes}
use Rattle.org_amend.specs.Heads.{tags_text}
use Rattle.org_base.specs.Results.{lent_in}
use Rattle.org_amend.proofs.head.push_tags.Given as goal

abbrev pub invariant-loop-tag : goal.invariant-loop-tag
invariant-loop-tag l = string_bytes l.text ++ tags_text (lent_in (drop l.tag-index l.tags)) ≡ string_bytes l.fn.text ++ tags_text (lent_in l.tags)
