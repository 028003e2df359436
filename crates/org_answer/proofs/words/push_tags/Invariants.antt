-- The tags so far are there, and those of the entries that are left follow.
use Rattle.std.proofs.Common.{◌≡◌, drop}
use Rattle.org_inherit.specs.Tags.{with_tags}
use Rattle.org_answer.specs.Words.{tags_from}
use Rattle.org_answer.proofs.words.push_tags.Given as goal

abbrev pub invariant-loop-place : goal.invariant-loop-place
invariant-loop-place l =
    with_tags l.words (tags_from l.inherit l.place (drop l.place l.inherit.entries)) ≡ with_tags l.initial.words (tags_from l.inherit 0 l.inherit.entries)
