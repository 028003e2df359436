-- What a typed word asks: a word, between slashes a pattern, behind a minus that it isn't there (profile).
use Rattle.std.specs.Prelude.{ℕ, Bool, true, false, ◌&&◌, ◌==◌, ◌-◌, List, [], ◌∷◌, Option, None, Some, chars, length, take, drop, get_or, nat_lt, if◌then◌else◌}
use Rattle.std.specs.Option.{option_map_or}
use Rattle.std.specs.Str.{is_utf8}
use Rattle.org_search.specs.Folded.{folded}

-- what is looked for: a word with its case folded, or the characters of a pattern
pub data Sought : Type 0 where
  Word : (text : List ℕ) → Sought
  Pattern : (text : List ℕ) → Sought

-- what has to be there, or mustn't
pub record Asked : Type 0 where
  pub is_wanted : Bool
  pub sought : Sought

-- the pattern of what is looked for, if it is one
abbrev pub sought_pattern : Sought → Option (List ℕ)
sought_pattern (Word text) = None
sought_pattern (Pattern text) = Some text

-- slashes stand around something
abbrev pub is_slashed : List ℕ → Bool
is_slashed word = nat_lt 2 (length word) && ((get_or word 0 0 == 47) && (get_or word (length word - 1) 0 == 47))

-- what stands between the first byte and the last
abbrev pub inner : List ℕ → List ℕ
inner word = take (length word - 2) (drop 1 word)

-- the text that bytes spell
abbrev pub text_of : List ℕ → Option (List ℕ)
text_of bytes = if is_utf8 bytes then Some bytes else None

-- the pattern between slashes, if there is one; whatever can be typed is UTF-8
abbrev pub pattern_text : List ℕ → Option (List ℕ)
pattern_text word = if is_slashed word then text_of (inner word) else None

-- a word or a pattern
abbrev pub sought_of : List ℕ → Sought
sought_of word = option_map_or (λ text. Pattern (chars text)) (pattern_text word) (Word (folded word))

-- what a typed word asks
abbrev pub typed_of : List ℕ → Asked
typed_of [] = record { is_wanted = true; sought = sought_of [] }
typed_of (b ∷ word) = if b == 45 then record { is_wanted = false; sought = sought_of word }
    else record { is_wanted = true; sought = sought_of (b ∷ word) }
