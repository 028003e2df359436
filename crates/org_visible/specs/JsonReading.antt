-- Strings of JSON read (RFC 8259, "Strings"): characters by their numbers, those from U+10000 on as two halves.
use Rattle.std.specs.Prelude.{ℕ, ◌+◌, ◌-◌, ◌*◌, ◌/◌, ◌%◌, ◌==◌, ◌&&◌, Bool, zero, suc, if◌then◌else◌, nat_le, nat_lt, List, [], ◌∷◌, ◌++◌}

-- in a string: outside an escape, behind a backslash, or behind some digits of a number, where so many are left; and the same
-- of the second half of a character, behind the first
pub data Place : Type 0 where
  outside : Place
  escape : Place
  digits : ℕ → ℕ → Place
  half : ℕ → Place
  half_escape : ℕ → Place
  half_digits : ℕ → ℕ → ℕ → Place

-- the value of a digit, small letters from ten on
abbrev pub digit_value : ℕ → ℕ
digit_value byte = if nat_lt byte 58 then byte - 48 else byte - 97 + 10

-- a byte behind the first of a character, of its last six bits
abbrev pub six_bits : ℕ → ℕ
six_bits number = 128 + number % 64

-- the character of a number, as UTF-8
abbrev pub character : ℕ → List ℕ
character number =
    if nat_lt number 128 then number ∷ []
    else (if nat_lt number 2048 then (192 + number / 64) ∷ six_bits number ∷ []
    else (if nat_lt number 65536 then (224 + number / 4096) ∷ six_bits (number / 64) ∷ six_bits number ∷ []
    else (240 + number / 262144) ∷ six_bits (number / 4096) ∷ six_bits (number / 64) ∷ six_bits number ∷ []))

-- the first half of a character from U+10000 on
abbrev pub is_half : ℕ → Bool
is_half number = nat_le 55296 number && nat_lt number 56320

-- the number of the character of both halves
abbrev pub joined : ℕ → ℕ → ℕ
joined first second = 65536 + (first - 55296) * 1024 + (second - 56320)

-- what a byte behind a backslash stands for, but for a number
abbrev pub escaped : ℕ → ℕ
escaped byte =
    if byte == 98 then 8 else if byte == 102 then 12 else if byte == 110 then 10 else if byte == 114 then 13 else if byte == 116 then 9 else byte

-- the text that a string's content stands for, from a place on
abbrev pub text_from : Place → List ℕ → List ℕ
text_from place [] = []
text_from outside (byte ∷ bytes) = if byte == 92 then text_from escape bytes else byte ∷ text_from outside bytes
text_from escape (byte ∷ bytes) = if byte == 117 then text_from (digits 0 4) bytes else escaped byte ∷ text_from outside bytes
text_from (digits value zero) (byte ∷ bytes) = []
text_from (digits value (suc zero)) (byte ∷ bytes) =
    if is_half (value * 16 + digit_value byte) then text_from (half (value * 16 + digit_value byte)) bytes
    else character (value * 16 + digit_value byte) ++ text_from outside bytes
text_from (digits value (suc (suc left))) (byte ∷ bytes) = text_from (digits (value * 16 + digit_value byte) (suc left)) bytes
text_from (half first) (byte ∷ bytes) = text_from (half_escape first) bytes
text_from (half_escape first) (byte ∷ bytes) = text_from (half_digits first 0 4) bytes
text_from (half_digits first value zero) (byte ∷ bytes) = []
text_from (half_digits first value (suc zero)) (byte ∷ bytes) = character (joined first (value * 16 + digit_value byte)) ++ text_from outside bytes
text_from (half_digits first value (suc (suc left))) (byte ∷ bytes) = text_from (half_digits first (value * 16 + digit_value byte) (suc left)) bytes

abbrev pub string_text : List ℕ → List ℕ
string_text content = text_from outside content
