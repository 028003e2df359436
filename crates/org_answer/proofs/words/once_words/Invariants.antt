-- The words of the files so far are there, and those of the files that are left follow.
use Rattle.std.proofs.Common.{◌≡◌, drop}
use Rattle.std.specs.List.{flat_map}
use Rattle.org_inherit.specs.Tags.{with_tags}
use Rattle.org_answer.specs.Words.{file_words, words_of}
use Rattle.org_answer.proofs.words.once_words.Given as goal

abbrev pub invariant-loop-file : goal.invariant-loop-file
invariant-loop-file l = with_tags l.words (flat_map (file_words l.kind) (drop l.file l.inherits)) ≡ words_of l.kind l.inherits
