-- The words of a title that stay where its counts change (profile).
-- Characters by their codes: 9 tab, 10 line feed, 32 space, 37 percent, 47 slash, 48 to 57 digits, 91 and 93 brackets.
use Rattle.std.specs.Prelude.{ℕ, zero, suc, ◌+◌, ◌==◌, ◌&&◌, ◌||◌, Bool, true, false, nat_le, if◌then◌else◌, List, [], ◌∷◌, ◌++◌, drop}

abbrev pub is_digit : ℕ → Bool
is_digit byte = nat_le 48 byte && nat_le byte 57

-- how many digits stand in front
abbrev pub digit_count : List ℕ → ℕ
digit_count [] = 0
digit_count (byte ∷ bytes) = if is_digit byte then suc (digit_count bytes) else 0

-- how long a cookie is whose bracket closes behind so many bytes; 0 where it doesn't
abbrev pub closed_length : ℕ → List ℕ → ℕ
closed_length n [] = 0
closed_length n (byte ∷ bytes) = if byte == 93 then suc n else 0

-- the same where its sign stands behind so many bytes
abbrev pub signed_length : ℕ → List ℕ → ℕ
signed_length n [] = 0
signed_length n (byte ∷ bytes) =
    if byte == 37 then closed_length (suc n) bytes
    else if byte == 47 then closed_length (suc n + digit_count bytes) (drop (digit_count bytes) bytes)
    else 0

-- how long the cookie of counts is with which a text begins, `[1/3]` or `[33%]`, whose numbers may be missing; 0 where none does
abbrev pub cookie_length : List ℕ → ℕ
cookie_length [] = 0
cookie_length (byte ∷ bytes) = if byte == 91 then signed_length (suc (digit_count bytes)) (drop (digit_count bytes) bytes) else 0

-- a text with a space in place of each of them, where so many bytes in front are still of one
abbrev pub beside_cookies : ℕ → List ℕ → List ℕ
beside_cookies left [] = []
beside_cookies (suc left) (byte ∷ bytes) = beside_cookies left bytes
beside_cookies zero (byte ∷ bytes) =
    elim (cookie_length (byte ∷ bytes)) [ zero ↦ byte ∷ beside_cookies 0 bytes | suc left ↦ 32 ∷ beside_cookies left bytes ]

abbrev pub is_blank : ℕ → Bool
is_blank byte = (byte == 32) || (byte == 9) || (byte == 10)

abbrev pub gap : Bool → List ℕ
gap true = 32 ∷ []
gap false = []

-- words with one space between any two: whether a word came before, and whether blanks did since
abbrev pub words_text : Bool → Bool → List ℕ → List ℕ
words_text has_word is_apart [] = []
words_text has_word is_apart (byte ∷ bytes) =
    if is_blank byte then words_text has_word true bytes else (gap (has_word && is_apart) ++ byte ∷ []) ++ words_text true false bytes

-- there may be none
abbrev pub plain_words : List ℕ → List ℕ
plain_words title = words_text false false (beside_cookies 0 title)
