-- The words of a title: what stands beside its active stamps (profile).
-- Characters by their codes: 9 tab, 32 space.
use Rattle.std.specs.Prelude.{ℕ, ◌+◌, ◌-◌, ◌==◌, ◌&&◌, ◌||◌, Bool, true, false, nat_le, if◌then◌else◌, List, [], ◌∷◌, ◌++◌, drop, length, take}
use Rattle.org_stamp.specs.Line.{stamps_of}
use Rattle.org_stamp.specs.declared.stamp.Found.{Found}

-- the bytes from a place to another; none where these aren't in order and within the text
abbrev pub part : List ℕ → ℕ → ℕ → List ℕ
part text from to = if nat_le from to && nat_le to (length text) then take (to - from) (drop from text) else []

-- a text from a place on, with a space in place of each active stamp
abbrev pub beside_stamps : List ℕ → ℕ → List Found → List ℕ
beside_stamps text from [] = drop from text
beside_stamps text from (found ∷ rest) =
    if found.stamp.active then part text from found.at ++ 32 ∷ beside_stamps text (found.at + found.len) rest else beside_stamps text from rest

abbrev pub is_blank : ℕ → Bool
is_blank byte = (byte == 32) || (byte == 9)

-- the space in front of a word, if it isn't the first one
abbrev pub gap : Bool → List ℕ
gap true = 32 ∷ []
gap false = []

-- words with one space between any two: whether a word came before, and whether blanks did since
abbrev pub words_text : Bool → Bool → List ℕ → List ℕ
words_text has_word is_apart [] = []
words_text has_word is_apart (byte ∷ bytes) =
    if is_blank byte then words_text has_word true bytes else (gap (has_word && is_apart) ++ byte ∷ []) ++ words_text true false bytes

-- a text that is nothing but stamps stands whole
abbrev pub words_or : List ℕ → List ℕ → List ℕ
words_or text [] = text
words_or text (byte ∷ bytes) = byte ∷ bytes

abbrev pub title_words : List ℕ → List ℕ
title_words title = words_or title (words_text false false (beside_stamps title 0 (stamps_of title)))
