-- Heading lines (Org Syntax, "Headings").
use Rattle.std.specs.Prelude.{ℕ, Bool, ◌&&◌, ◌==◌, nat_lt, List, slice_index}
use Rattle.std.specs.List.{prefix_len}

-- how many stars stand at the front
abbrev pub stars : List ℕ → ℕ
stars line = prefix_len (λ b. b == 42) line

-- a heading line, or a text that begins with one: one or more stars at the front, then a space
abbrev pub begins_heading : List ℕ → Bool
begins_heading line = nat_lt 0 (stars line) && (slice_index line (stars line) == 32)
