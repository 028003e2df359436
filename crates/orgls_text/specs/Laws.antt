-- Laws of positions and of texts that are open, in the words of the protocol.
use Rattle.std.specs.Prelude.{◌≡◌, ℕ, zero, suc, ◌≤◌, ◌<◌, ◌==◌, ◌&&◌, ◌||◌, not, Bool, true, false, List, [], length, slice_index, None}
use Rattle.std.specs.Str.{IsUtf8}
use Rattle.org_text.specs.Replace.{is_boundary}
use Rattle.orgls_text.specs.Documents.{Event, behind_events, text_behind_all, text_of}
use Rattle.orgls_text.specs.Positions.{offset_of, position_of}
use Rattle.orgls_text.specs.declared.position.Position.{Position}
use Rattle.orgls_text.specs.declared.position.PositionEncoding.{PositionEncoding}

-- whether a place is between a carriage return and its line feed
abbrev pub cuts_line_end : List ℕ → ℕ → Bool
cuts_line_end text zero = false
cuts_line_end text (suc before) = slice_index text before == 13 && slice_index text (suc before) == 10

-- whether a position can stand at a place: it cuts no character and no end of a line
abbrev pub is_stop_at : List ℕ → ℕ → Bool
is_stop_at text offset = not (cuts_line_end text offset) && is_boundary text offset

-- whether a line ends at a place
abbrev pub ends_line : List ℕ → ℕ → Bool
ends_line text offset =
    not (cuts_line_end text offset) && (offset == length text || (slice_index text offset == 10 || slice_index text offset == 13))

-- where a position can stand, the byte of its position is that place again
abbrev pub OffsetsComeBack : Type 0
OffsetsComeBack = (encoding : PositionEncoding) (text : List ℕ) (offset : ℕ) → offset ≤ length text → is_stop_at text offset ≡ true →
    offset_of encoding text (position_of encoding text offset) ≡ offset

-- a position that a text has is that of its byte
abbrev pub PositionsComeBack : Type 0
PositionsComeBack = (encoding : PositionEncoding) (text : List ℕ) (position : Position) (offset : ℕ) → offset ≤ length text →
    is_stop_at text offset ≡ true → position_of encoding text offset ≡ position →
    position_of encoding text (offset_of encoding text position) ≡ position

-- a position beyond a line's end is that end
abbrev pub BeyondALineIsItsEnd : Type 0
BeyondALineIsItsEnd = (encoding : PositionEncoding) (text : List ℕ) (offset : ℕ) (position : Position) → offset ≤ length text →
    ends_line text offset ≡ true → (position_of encoding text offset).line ≡ position.line →
    (position_of encoding text offset).character ≤ position.character → offset_of encoding text position ≡ offset

-- one beyond the last line is the text's end
abbrev pub BeyondTheTextIsItsEnd : Type 0
BeyondTheTextIsItsEnd = (encoding : PositionEncoding) (text : List ℕ) (position : Position) →
    (position_of encoding text (length text)).line < position.line → offset_of encoding text position ≡ length text

-- no position cuts a character or the end of a line, whatever it says
abbrev pub PositionsCutNothing : Type 0
PositionsCutNothing = (encoding : PositionEncoding) (text : List ℕ) (position : Position) → IsUtf8 text →
    (offset_of encoding text position ≤ length text) × (is_stop_at text (offset_of encoding text position) ≡ true)

-- after any events, an address has the text that its own events leave, whatever was told of others
abbrev pub TextsAreTheirOwn : Type 0
TextsAreTheirOwn = (encoding : PositionEncoding) (address : List ℕ) (events : List Event) →
    text_of (behind_events encoding [] events) address ≡ text_behind_all encoding address None events
