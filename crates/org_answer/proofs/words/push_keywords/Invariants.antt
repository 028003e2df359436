-- The keywords so far are there.
use Rattle.std.proofs.Common.{◌≡◌, fold, take}
use Rattle.org_inherit.specs.Tags.{with_tag}
use Rattle.org_answer.specs.Words.{keyword_words}
use Rattle.org_answer.proofs.words.push_keywords.Given as goal

abbrev pub invariant-loop-place : goal.invariant-loop-place
invariant-loop-place l = l.words ≡ fold with_tag l.initial.words (take l.place (keyword_words l.settings))
