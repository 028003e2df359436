-- The first word of a text at whose front no gap stands.
use Rattle.std.proofs.Common.{◌≡◌, ℕ, List, length, take, drop, sym, ap, ◌∙◌}
use Rattle.std.proofs.lemmas.List.Folds.{length-prefix_len}
use Rattle.std.specs.List.{prefix_len}
use Rattle.org_head.proofs.Runs.{fails_behind}
use Rattle.org_base.specs.Words.{trim_start, first_word, is_letter, is_gap}

-- no gap stands at the front of the text
abbrev pub IsTrimmed : List ℕ → Type 0
IsTrimmed text = prefix_len is_gap text ≡ 0

pub trimmed-trim_start : (text : List ℕ) → IsTrimmed (trim_start text)
trimmed-trim_start text = fails_behind is_gap text

pub trim_start-trimmed : (text : List ℕ) → IsTrimmed text → trim_start text ≡ text
trim_start-trimmed text h = ap (λ n. drop n text) h

pub length-first_word_is : (text : List ℕ) → IsTrimmed text → length (first_word text) ≡ prefix_len is_letter text
length-first_word_is text h = length-prefix_len is_letter (trim_start text) ∙ ap (prefix_len is_letter) (trim_start-trimmed text h)

-- the first word is as many bytes of the text as it has
pub first_word-taken : (text : List ℕ) → IsTrimmed text → take (length (first_word text)) text ≡ first_word text
first_word-taken text h = ap (λ n. take n text) (length-first_word_is text h) ∙ sym (ap (λ t. take (prefix_len is_letter t) t) (trim_start-trimmed text h))
