-- The tags so far, and then those that are left.
use Rattle.std.proofs.Common.{◌≡◌, ◌++◌, drop}
use Rattle.org_amend.specs.Heads.{tags_text}
use Rattle.org_amend.proofs.head_draft.push_tags.Given as goal

abbrev pub invariant-loop-place : goal.invariant-loop-place
invariant-loop-place l = l.line.items ++ tags_text (drop l.place l.tags) ≡ l.fn.line.items ++ tags_text l.tags
