-- Texts as they are shown: each character that isn't shown as it is can be seen, and is none (RFC 8259, "Strings"; carets: as
-- terminals echo; numbers between pointed brackets: as `less` shows bytes).
use Rattle.std.specs.Prelude.{ℕ, ◌+◌, ◌-◌, ◌/◌, ◌%◌, ◌==◌, ◌||◌, nat_lt, if◌then◌else◌, List, [], ◌∷◌, ◌++◌, codes}
use Rattle.std.specs.List.{flat_map}
use Rattle.org_visible.specs.Unseen.{block_of, ends, front_bytes, is_control, is_first, next, place, waits}
use Rattle.org_visible.specs.declared.front.Block.{Block}
use Rattle.org_visible.specs.declared.front.Block.TheVariants.{Latin, Punctuation, Tags}
use Rattle.org_visible.specs.declared.front.Front.{Front}
use Rattle.org_visible.specs.declared.front.Front.TheVariants.{Empty}
use Rattle.org_visible.specs.declared.visible.Escape.{Escape}
use Rattle.org_visible.specs.declared.visible.Escape.TheVariants.{Json, Caret, Field, Question}

-- the digit of a number below 16
abbrev pub hex : ℕ → ℕ
hex digit = if nat_lt digit 10 then 48 + digit else 97 + (digit - 10)

-- two of them, of a number below 256
abbrev pub digits : ℕ → List ℕ
digits number = hex (number / 16) ∷ hex (number % 16) ∷ []

-- in a string of JSON a character stands by its number; one of those from U+10000 on by two, of which the first is U+DB40
abbrev pub json_front : Block → List ℕ
json_front Latin = codes "\\u00"
json_front Punctuation = codes "\\u20"
json_front Tags = codes "\\udb40\\udc"

-- a character of ASCII after a caret by the letter of its key, another one by its number between pointed brackets
abbrev pub caret_latin : ℕ → List ℕ
caret_latin number =
    if nat_lt number 32 then 94 ∷ (number + 64) ∷ []
    else (if number == 127 then codes "^?" else codes "<" ++ digits number ++ 62 ∷ [])

abbrev pub caret : Block → ℕ → List ℕ
caret Latin number = caret_latin number
caret Punctuation number = codes "<20" ++ digits number ++ 62 ∷ []
caret Tags number = codes "<e00" ++ digits number ++ 62 ∷ []

-- a question mark for each byte of a character
abbrev pub questions : Block → ℕ → List ℕ
questions Latin number = if nat_lt number 128 then codes "?" else codes "??"
questions Punctuation number = codes "???"
questions Tags number = codes "????"

-- such a character of a place among these
abbrev pub control : Escape → Block → ℕ → List ℕ
control Json block number = json_front block ++ digits number
control Caret block number = caret block number
control Field block number = 32 ∷ []
control Question block number = questions block number

abbrev pub field_byte : ℕ → ℕ
field_byte byte = if byte == 44 then 59 else byte

-- another byte: of JSON a quotation mark and a backslash after a backslash; in a field a comma is a semicolon
abbrev pub other : Escape → ℕ → List ℕ
other Json byte = if (byte == 34) || (byte == 92) then 92 ∷ byte ∷ [] else byte ∷ []
other Caret byte = byte ∷ []
other Field byte = field_byte byte ∷ []
other Question byte = byte ∷ []

-- a byte that goes on with no such character; the first of one waits for the next byte
abbrev pub single : Escape → ℕ → List ℕ
single escape byte = if is_first byte then [] else (if is_control byte then control escape Latin byte else other escape byte)

-- what is written at a byte, where the front of a character may have come before and isn't written yet
abbrev pub written : Escape → Front → ℕ → List ℕ
written escape front byte =
    if ends front byte then control escape (block_of front) (place front byte)
    else (if waits front byte then [] else front_bytes front ++ single escape byte)

-- the front of a character at which a text is cut, each byte by its number
abbrev pub cut : Escape → Front → List ℕ
cut escape front = flat_map (control escape Latin) (front_bytes front)

-- a text, byte by byte
abbrev pub visible_behind : Escape → Front → List ℕ → List ℕ
visible_behind escape front [] = cut escape front
visible_behind escape front (byte ∷ bytes) = written escape front byte ++ visible_behind escape (next front byte) bytes

-- a whole text; proofs that look into it name it
unfoldable pub visible : Escape → List ℕ → List ℕ
visible escape text = visible_behind escape Empty text
