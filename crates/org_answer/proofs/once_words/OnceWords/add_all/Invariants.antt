-- The words so far are there.
use Rattle.std.proofs.Common.{◌≡◌, fold, take}
use Rattle.org_inherit.specs.Tags.{with_tag}
use Rattle.org_answer.proofs.once_words.OnceWords.add_all.Given as goal

abbrev pub invariant-loop-place : goal.invariant-loop-place
invariant-loop-place l = l.self ≡ fold with_tag l.initial.self (take l.place l.words)
