-- What a history is as bytes, and what is found at the front of bytes.
use Rattle.std.specs.Prelude.{◌≡◌, ℕ, List, ◌++◌, length, take, drop, Option, Some, None, nat_lt, if◌then◌else◌, codes, bytes_eq}
use Rattle.std.specs.Int.{w64, to_le_bytes, from_le_bytes}
use Rattle.std.specs.Option.{option_and_then}
use Rattle.org_history.specs.Changes.{Kept, Past, text_after}

-- the eight bytes of a number, the lowest first
abbrev pub number_bytes : ℕ → List ℕ
number_bytes n = to_le_bytes w64 n

-- a piece behind its length
abbrev pub piece_bytes : List ℕ → List ℕ
piece_bytes piece = number_bytes (length piece) ++ piece

-- the numbers of a change, and its two pieces
abbrev pub change_bytes : Kept → List ℕ
change_bytes k = number_bytes k.minute ++ number_bytes k.order ++ number_bytes k.at ++ piece_bytes k.deleted ++ piece_bytes k.inserted

-- the first line of a history
abbrev pub mark : List ℕ
mark = codes "orgq undo 1\n"

-- the mark, the path and the text that was left, and the changes
abbrev pub history_bytes : Past → List ℕ
history_bytes p = mark ++ piece_bytes p.path ++ piece_bytes p.left ++ p.changes

-- the history once a change was made in a text, with the older ones behind it
abbrev pub bytes_with : List ℕ → List ℕ → Kept → List ℕ → List ℕ
bytes_with path text k older = history_bytes (record { path = path; left = text_after text k; changes = change_bytes k ++ older })

-- the number at the front, and the bytes behind it
abbrev pub number_at : List ℕ → Option (ℕ × List ℕ)
number_at bytes = if nat_lt (length bytes) 8 then None else Some (from_le_bytes w64 (take 8 bytes), drop 8 bytes)

-- the piece at the front, and the bytes behind it
unfoldable pub piece_at : List ℕ → Option (List ℕ × List ℕ)
piece_at bytes = option_and_then (λ n. if nat_lt (length n.1) n.0 then None else Some (take n.0 n.1, drop n.0 n.1)) (number_at bytes)

-- the pieces of a change behind its numbers, and the bytes behind it
abbrev pub change_of : ℕ → ℕ → ℕ → List ℕ → Option (Kept × List ℕ)
change_of minute order at bytes =
    option_and_then (λ deleted. option_and_then (λ inserted. Some (record { minute = minute; order = order; at = at; deleted = deleted.0; inserted = inserted.0 }, inserted.1)) (piece_at deleted.1)) (piece_at bytes)

-- the change at the front, and the bytes behind it
unfoldable pub change_at : List ℕ → Option (Kept × List ℕ)
change_at bytes =
    option_and_then (λ minute. option_and_then (λ order. option_and_then (λ at. change_of minute.0 order.0 at.0 at.1) (number_at order.1)) (number_at minute.1)) (number_at bytes)

-- the history that stands behind the mark
unfoldable pub past_at : List ℕ → Option Past
past_at bytes =
    option_and_then (λ path. option_and_then (λ left. Some (record { path = path.0; left = left.0; changes = left.1 })) (piece_at path.1)) (piece_at bytes)

-- the history that the bytes are
unfoldable pub history_at : List ℕ → Option Past
history_at bytes = if bytes_eq (take (length mark) bytes) mark then past_at (drop (length mark) bytes) else None
