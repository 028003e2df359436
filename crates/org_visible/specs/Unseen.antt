-- Characters that aren't shown as they are, as bytes of UTF-8 come one by one (Unicode: control characters, of the general
-- category Cc, are U+0000 to U+001F and U+007F to U+009F; what opens or closes a part of a line that reads in another
-- direction U+202A to U+202E and U+2066 to U+2069; tags, which show nothing, U+E0000 to U+E007F).
use Rattle.std.specs.Prelude.{ℕ, ◌-◌, ◌&&◌, ◌||◌, ◌==◌, Bool, false, nat_le, nat_lt, if◌then◌else◌, List, [], ◌∷◌}
use Rattle.org_visible.specs.declared.front.Block.{Block}
use Rattle.org_visible.specs.declared.front.Block.TheVariants.{Latin, Punctuation, Tags}
use Rattle.org_visible.specs.declared.front.Front.{Front}
use Rattle.org_visible.specs.declared.front.Front.TheVariants.{Empty, C2, E2, E280, E281, F3, F3A0, F3A080, F3A081}

-- a control character of one byte
abbrev pub is_control : ℕ → Bool
is_control byte = nat_lt byte 32 || (byte == 127)

-- the first byte of such a character that has more
abbrev pub is_first : ℕ → Bool
is_first byte = (byte == 194) || ((byte == 226) || (byte == 243))

-- the bytes of such a character that came
abbrev pub front_bytes : Front → List ℕ
front_bytes Empty = []
front_bytes C2 = 194 ∷ []
front_bytes E2 = 226 ∷ []
front_bytes E280 = 226 ∷ 128 ∷ []
front_bytes E281 = 226 ∷ 129 ∷ []
front_bytes F3 = 243 ∷ []
front_bytes F3A0 = 243 ∷ 160 ∷ []
front_bytes F3A080 = 243 ∷ 160 ∷ 128 ∷ []
front_bytes F3A081 = 243 ∷ 160 ∷ 129 ∷ []

-- one from the first number to the one before the second
abbrev pub between : ℕ → ℕ → ℕ → Bool
between low high number = nat_le low number && nat_lt number high

-- a character by its number: one that turns what stands beside it around, or a tag
abbrev pub is_mark : ℕ → Bool
is_mark number = between 8234 8239 number || (between 8294 8298 number || between 917504 917632 number)

-- behind them a byte is the last one of the character
abbrev pub ends : Front → ℕ → Bool
ends Empty byte = false
ends C2 byte = between 128 160 byte
ends E2 byte = false
ends E280 byte = between 170 175 byte
ends E281 byte = between 166 170 byte
ends F3 byte = false
ends F3A0 byte = false
ends F3A080 byte = between 128 192 byte
ends F3A081 byte = between 128 192 byte

-- behind them a byte is one more of the character, and not the last
abbrev pub waits : Front → ℕ → Bool
waits Empty byte = false
waits C2 byte = false
waits E2 byte = (byte == 128) || (byte == 129)
waits E280 byte = false
waits E281 byte = false
waits F3 byte = byte == 160
waits F3A0 byte = (byte == 128) || (byte == 129)
waits F3A080 byte = false
waits F3A081 byte = false

-- what has come of a character with a byte that begins one, or none
abbrev pub front_of : ℕ → Front
front_of byte = if byte == 194 then C2 else (if byte == 226 then E2 else (if byte == 243 then F3 else Empty))

-- what has come of a character behind one more byte
abbrev pub next : Front → ℕ → Front
next Empty byte = front_of byte
next C2 byte = front_of byte
next E2 byte = if byte == 128 then E280 else (if byte == 129 then E281 else front_of byte)
next E280 byte = front_of byte
next E281 byte = front_of byte
next F3 byte = if byte == 160 then F3A0 else front_of byte
next F3A0 byte = if byte == 128 then F3A080 else (if byte == 129 then F3A081 else front_of byte)
next F3A080 byte = front_of byte
next F3A081 byte = front_of byte

-- the characters among which one is
abbrev pub block_of : Front → Block
block_of Empty = Latin
block_of C2 = Latin
block_of E2 = Punctuation
block_of E280 = Punctuation
block_of E281 = Punctuation
block_of F3 = Tags
block_of F3A0 = Tags
block_of F3A080 = Tags
block_of F3A081 = Tags

-- which of them it is, with its last byte
abbrev pub place : Front → ℕ → ℕ
place Empty byte = byte
place C2 byte = byte
place E2 byte = byte
place E280 byte = byte - 128
place E281 byte = byte - 64
place F3 byte = byte
place F3A0 byte = byte
place F3A080 byte = byte - 128
place F3A081 byte = byte - 64
