-- With the words that are left added, the keywords are those of all words.
use Rattle.std.proofs.Common.{◌≡◌, map, drop}
use Rattle.org_settings.specs.Keywords.{add_words}
use Rattle.org_settings.proofs.keywords.Keywords.add_words.Given as goal

abbrev pub invariant-loop-word : goal.invariant-loop-word
invariant-loop-word l = add_words l.is_done l.first l.self (drop l.word-index (map (λ x. x.now) l.words)) ≡ add_words l.is_done l.first l.fn.self (map (λ x. x.now) l.words)
