use Rattle.std.proofs.Common.{◌≡◌, drop}
use Rattle.org_overview.specs.Tasks.{has_word}
use Rattle.org_overview.proofs.tasks.has_word.Given as goal

abbrev pub invariant-loop-place : goal.invariant-loop-place
invariant-loop-place l = has_word (drop l.place l.names) l.word ≡ has_word l.names l.word
