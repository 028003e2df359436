-- Text without regard to case (The Unicode Standard, section 3.13: default case folding, in full, without the Turkic
-- mappings), and where a word stands in it.
use Rattle.std.specs.Prelude.{ℕ, Bool, List, is_some, chars, encode_utf8_all}
use Rattle.caseless.specs.Caseless.{default_case_fold}
use Rattle.memchr.specs.Find.{first_of, matches}

-- a text with its case folded
abbrev pub folded : List ℕ → List ℕ
folded text = encode_utf8_all (default_case_fold (chars text))

-- some place of the text begins with the word
abbrev pub stands_in : List ℕ → List ℕ → Bool
stands_in word text = is_some (first_of (matches text word 0))
