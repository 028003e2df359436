-- The words that are parts of a heading line (Org Syntax, "Headings").
use Rattle.std.specs.Prelude.{ℕ, ◌-◌, Bool, ◌&&◌, ◌||◌, not, ◌==◌, nat_lt, List, length, drop, slice_index, bytes_eq, codes, chars, is_some}
use Rattle.std.specs.Char.{is_ascii_alphanumeric}
use Rattle.std.specs.List.{list_any, list_all, suffix_len}
use Rattle.std.specs.Str.{is_utf8}
use Rattle.org_base.specs.Characters.{is_tag_char}
use Rattle.org_base.specs.Words.{is_letter}
use Rattle.org_settings.specs.Keywords.{Keyword, keyword_place}

-- the word is one of the file's keywords
abbrev pub is_keyword : List Keyword → List ℕ → Bool
is_keyword keywords w = is_some (keyword_place keywords w)

-- the word COMMENT, in capitals
abbrev pub is_comment_word : List ℕ → Bool
is_comment_word w = bytes_eq w (codes "COMMENT")

-- the byte `:`
abbrev pub is_colon : ℕ → Bool
is_colon c = c == 58

-- an ASCII character that may stand among tags, as they are written
abbrev pub is_plain_tag_char : ℕ → Bool
is_plain_tag_char c = nat_lt c 128 && ((is_ascii_alphanumeric c || (c == 95 || (c == 64 || (c == 35 || c == 37)))) || is_colon c)

-- characters of tags and colons alone
abbrev pub are_tag_chars : List ℕ → Bool
are_tag_chars w = list_all (λ c. is_tag_char c || is_colon c) (chars w)

-- a word of tags, as `:a:b:`: a colon at both ends, characters of tags and colons between, and one tag that isn't empty
abbrev pub is_tag_word : List ℕ → Bool
is_tag_word w = nat_lt 1 (length w) && is_colon (slice_index w 0) && is_colon (slice_index w (length w - 1)) && list_any (λ b. not (is_colon b)) w && is_utf8 w && are_tag_chars w

-- the last word of a text at whose end no gap stands
abbrev pub last_word : List ℕ → List ℕ
last_word t = drop (length t - suffix_len is_letter t) t
