-- Texts as values of properties (RFC 5545, 3.3.11, "Text"; a list of them: 3.8.1.2, "Categories").
-- Characters by their codes: 10 line feed, 32 space, 44 comma, 59 semicolon, 78 N, 92 backslash, 110 n.
use Rattle.std.specs.Prelude.{ℕ, ◌==◌, ◌&&◌, ◌||◌, Bool, true, false, nat_le, nat_lt, if◌then◌else◌, List, [], ◌∷◌, ◌++◌}
use Rattle.org_ical.specs.declared.value.TheConstants.{LEAD}

-- a byte is a control character, U+0000 to U+001F and U+007F
abbrev pub is_control : ℕ → Bool
is_control byte = nat_lt byte 32 || byte == 127

-- a byte is the second one of a character from U+0080 to U+009F, where LEAD came before
abbrev pub is_second : ℕ → Bool
is_second byte = nat_le 128 byte && nat_lt byte 160

-- a byte of a text, where LEAD may have come before: a control character but a line feed is a space, and one of U+0080 to
-- U+009F a space that doesn't break, U+00A0
abbrev pub plain_byte : Bool → ℕ → ℕ
plain_byte led byte = if byte == 10 then 10 else (if is_control byte then 32 else (if led && is_second byte then 160 else byte))

abbrev pub plain_behind : Bool → List ℕ → List ℕ
plain_behind led [] = []
plain_behind led (byte ∷ bytes) = plain_byte led byte ∷ plain_behind (byte == LEAD) bytes

-- a text without control characters but line feeds
abbrev pub plain : List ℕ → List ℕ
plain text = plain_behind false text

-- a byte stands after a backslash
abbrev pub is_special : ℕ → Bool
is_special byte = byte == 92 || byte == 59 || byte == 44

-- a byte of a value: a backslash, a semicolon and a comma stand after a backslash, a line feed is one and an n
abbrev pub escaped_byte : ℕ → List ℕ
escaped_byte byte = if byte == 10 then 92 ∷ 110 ∷ [] else (if is_special byte then 92 ∷ byte ∷ [] else byte ∷ [])

abbrev pub escaped : List ℕ → List ℕ
escaped [] = []
escaped (byte ∷ bytes) = escaped_byte byte ++ escaped bytes

-- the value that spells a text
abbrev pub value_text : List ℕ → List ℕ
value_text text = escaped (plain text)

-- a comma, and the value that spells a text, for each of some
abbrev pub values_behind : List (List ℕ) → List ℕ
values_behind [] = []
values_behind (text ∷ texts) = 44 ∷ value_text text ++ values_behind texts

-- the values that spell some texts, with commas between them
abbrev pub values_text : List (List ℕ) → List ℕ
values_text [] = []
values_text (text ∷ texts) = value_text text ++ values_behind texts

-- a byte in front of the first of some texts
abbrev pub put : ℕ → List (List ℕ) → List (List ℕ)
put byte [] = (byte ∷ []) ∷ []
put byte (text ∷ texts) = (byte ∷ text) ∷ texts

-- what a byte after a backslash means
abbrev pub meant : ℕ → ℕ
meant byte = if byte == 110 || byte == 78 then 10 else byte

-- the texts that a property's value spells, as a reader takes them; the flag says that a backslash came before
abbrev pub read_behind : Bool → List ℕ → List (List ℕ)
read_behind slashed [] = [] ∷ []
read_behind true (byte ∷ bytes) = put (meant byte) (read_behind false bytes)
read_behind false (byte ∷ bytes) =
    if byte == 92 then read_behind true bytes
    else (if byte == 44 then [] ∷ read_behind false bytes else put byte (read_behind false bytes))

abbrev pub read_values : List ℕ → List (List ℕ)
read_values value = read_behind false value
