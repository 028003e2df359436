-- What is written, as far as a name goes, and the words that are left.
use Rattle.std.proofs.Common.{◌≡◌, ◌++◌, drop, false}
use Rattle.org_ids.specs.Names.{bounded}
use Rattle.org_ids.specs.Words.{words_text}
use Rattle.org_ids.proofs.words.push_blanked.Given as goal

abbrev pub invariant-loop-byte : goal.invariant-loop-byte
invariant-loop-byte l = bounded (l.out.items ++ words_text l.has_word l.is_apart (drop l.byte-index l.bytes)) ≡ bounded (l.fn.out.items ++ words_text false false l.bytes)
