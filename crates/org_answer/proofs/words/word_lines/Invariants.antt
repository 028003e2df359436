-- The lines so far, with those of the words that are left.
use Rattle.std.proofs.Common.{◌≡◌, ◌++◌, drop}
use Rattle.org_answer.specs.Words.{word_lines}
use Rattle.org_answer.proofs.words.word_lines.Given as goal

abbrev pub invariant-loop-place : goal.invariant-loop-place
invariant-loop-place l = l.lines.items ++ word_lines l.form l.is_seen (drop l.place l.words) ≡ word_lines l.form l.is_seen l.words
