-- The words so far, with those that are left.
use Rattle.std.proofs.Common.{◌≡◌, ◌++◌, drop, map, string_bytes}
use Rattle.orgq_files.proofs.setting.push_words.Given as goal

abbrev pub invariant-loop-word : goal.invariant-loop-word
invariant-loop-word l =
    map string_bytes l.all.items ++ map string_bytes (drop l.word-index l.words) ≡ map string_bytes l.fn.all.items ++ map string_bytes l.words
