-- Positions of the protocol (LSP 3.17, "Text Documents" and "Position").
use Rattle.std.specs.Prelude.{ℕ, suc, ◌+◌, ◌==◌, ◌&&◌, ◌||◌, not, Bool, true, false, nat_lt, nat_le, if◌then◌else◌, List, [], ◌∷◌, take, Option, None, Some, unwrap_or}
use Rattle.orgls_text.specs.declared.cursor.Cursor.{Cursor}
use Rattle.orgls_text.specs.declared.change.Range.{Range}
use Rattle.orgls_text.specs.declared.position.Position.{Position}
use Rattle.orgls_text.specs.declared.position.PositionEncoding.{PositionEncoding}
use Rattle.orgls_text.specs.declared.position.PositionEncoding.TheVariants.{Utf8, Utf16}
use Rattle.orgls_text.specs.declared.positions.TextSpan.{TextSpan}

-- how many units of UTF-16 begin with a byte of UTF-8: two where four bytes are a character, none inside a character
abbrev pub utf16_units : ℕ → ℕ
utf16_units byte = if nat_lt byte 128 then 1 else (if nat_lt byte 192 then 0 else (if nat_lt byte 240 then 1 else 2))

-- how many units begin with it, where characters are counted so
abbrev pub units : PositionEncoding → ℕ → ℕ
units Utf8 byte = 1
units Utf16 byte = utf16_units byte

-- whether the first stands behind the second
abbrev pub is_beyond : Position → Position → Bool
is_beyond a b = nat_lt b.line a.line || (a.line == b.line && nat_lt b.character a.character)

-- in front of all bytes
abbrev pub start : Cursor
start = record { position = record { line = 0; character = 0 }; is_behind_return = false }

-- in front of the next line
abbrev pub next_line : Cursor → Bool → Cursor
next_line cursor returned = record { position = record { line = cursor.position.line + 1; character = 0 }; is_behind_return = returned }

-- on the same line behind so many units
abbrev pub same_line : Cursor → ℕ → Cursor
same_line cursor count =
    record { position = record { line = cursor.position.line; character = cursor.position.character + count }; is_behind_return = false }

-- behind one more byte: a line feed ends a line unless it is the second of a carriage return and a line feed
abbrev pub behind_byte : PositionEncoding → Cursor → ℕ → Cursor
behind_byte encoding cursor byte =
    if cursor.is_behind_return && byte == 10 then record { position = cursor.position; is_behind_return = false } else
    (if byte == 10 || byte == 13 then next_line cursor (byte == 13) else same_line cursor (units encoding byte))

-- behind some bytes
unfoldable pub cursor_behind : PositionEncoding → Cursor → List ℕ → Cursor
cursor_behind encoding cursor [] = cursor
cursor_behind encoding cursor (byte ∷ bytes) = cursor_behind encoding (behind_byte encoding cursor byte) bytes

-- the position in front of a byte of a text
abbrev pub position_of : PositionEncoding → List ℕ → ℕ → Position
position_of encoding text offset = (cursor_behind encoding start (take offset text)).position

-- whether a position can stand in front of a byte: neither a character nor the end of a line goes on with it
abbrev pub is_stop : Cursor → ℕ → Bool
is_stop cursor byte = not (cursor.is_behind_return && byte == 10) && (nat_lt byte 128 || nat_le 192 byte)

-- a place in what comes behind a byte, or this one
abbrev pub behind_or : Option ℕ → Bool → Option ℕ
behind_or (Some count) here = Some (suc count)
behind_or None true = Some 0
behind_or None false = None

-- the last place in some bytes at which a position can stand that isn't beyond this one
unfoldable pub last_within : PositionEncoding → Position → Cursor → List ℕ → Option ℕ
last_within encoding position cursor [] = if is_beyond cursor.position position then None else Some 0
last_within encoding position cursor (byte ∷ bytes) =
    behind_or (last_within encoding position (behind_byte encoding cursor byte) bytes) (not (is_beyond cursor.position position) && is_stop cursor byte)

-- the byte of a text in front of which a position stands
abbrev pub offset_of : PositionEncoding → List ℕ → Position → ℕ
offset_of encoding text position = unwrap_or (last_within encoding position start text) 0

-- the range of a part of a text
abbrev pub range_of : PositionEncoding → List ℕ → TextSpan → Range
range_of encoding text span = record { start = position_of encoding text span.start; end = position_of encoding text span.end }

-- a text of which positions are asked
pub record ReaderView : Type 0 where
  pub text : List ℕ
  pub encoding : PositionEncoding
