-- What is written, and the words that are left.
use Rattle.std.proofs.Common.{◌≡◌, ◌++◌, drop, false}
use Rattle.org_client.specs.TitleWords.{words_text}
use Rattle.org_client.proofs.titles.words_text.Given as goal

abbrev pub invariant-loop-byte : goal.invariant-loop-byte
invariant-loop-byte l = l.out.items ++ words_text l.has_word l.is_apart (drop l.byte-index l.bytes) ≡ words_text false false l.bytes
