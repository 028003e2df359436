-- Paths in addresses.
use Rattle.std.specs.Prelude.{◌≡◌, ◌≢◌, ℕ, ◌+◌, ◌<◌, ◌/◌, ◌%◌, true, Bool, ◌||◌, ◌&&◌, ◌==◌, nat_le, nat_lt, if◌then◌else◌, List, [], ◌∷◌, All}
use Rattle.std.specs.List.{flat_map}

-- letters, digits, a dash, a dot, a slash, a low line and a tilde
abbrev pub is_plain_byte : ℕ → Bool
is_plain_byte b =
    (nat_le 97 b && nat_lt b 123) || (nat_le 65 b && nat_lt b 91) || (nat_le 45 b && nat_lt b 58) || (b == 95) || (b == 126)

abbrev pub hex_digit : ℕ → ℕ
hex_digit d = if nat_lt d 10 then d + 48 else d + 55

-- a byte of a path: as it is, or a percent sign with its number
abbrev pub encoded_byte : ℕ → List ℕ
encoded_byte b = if is_plain_byte b then b ∷ [] else (37 ∷ hex_digit (b / 16) ∷ hex_digit (b % 16) ∷ [])

abbrev pub encoded : List ℕ → List ℕ
encoded path = flat_map encoded_byte path

-- an encoded path has nothing but what is plain and percent signs: no colon, no brace, no mark of a page
abbrev pub IsOfAddress : ℕ → Type 0
IsOfAddress c = ((c == 37) || is_plain_byte c) ≡ true

abbrev pub PathsArePlain : Type 0
PathsArePlain = (path : List ℕ) → All (λ b. b < 256) path → All IsOfAddress (encoded path)
