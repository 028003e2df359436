-- What ends a line.
-- Characters by their codes: 13 carriage return.
use Rattle.std.specs.Prelude.{ℕ, ◌-◌, ◌==◌, ◌&&◌, not, nat_le, if◌then◌else◌, List, length, drop, slice_index}
use Rattle.org_amend.specs.Planning.{has_feed}

-- how long the end of a line is: a line feed, with a carriage return before it or without, or nothing
abbrev pub tail_len : List ℕ → ℕ
tail_len line = if not (has_feed line) then 0 else (if nat_le 2 (length line) && slice_index line (length line - 2) == 13 then 2 else 1)

-- what ends a line
abbrev pub line_tail : List ℕ → List ℕ
line_tail line = drop (length line - tail_len line) line
