-- Lines of a text, and the heading that stands on one (Org Syntax, "Headings").
-- Characters by their codes: 10 line feed, 13 carriage return.
use Rattle.std.specs.Prelude.{ℕ, ◌+◌, ◌-◌, Bool, ◌&&◌, not, ◌==◌, nat_le, if◌then◌else◌, List, [], ◌∷◌, length, get_or, slice_index, Option, Some, None, codes}
use Rattle.org_class.specs.Heading.{begins_heading, stars}
use Rattle.org_lines.specs.Cuts.{lines}

-- the first line of a text, with what ends it; empty where there is none
abbrev pub first_line : List ℕ → List ℕ
first_line text = get_or (lines text) 0 []

-- a line feed is the last byte
abbrev pub has_feed : List ℕ → Bool
has_feed line = slice_index line (length line - 1) == 10

-- what ends a line: a line feed, with a carriage return before it or without, or nothing
abbrev pub line_end : List ℕ → List ℕ
line_end line =
    if not (has_feed line) then []
    else (if nat_le 2 (length line) && slice_index line (length line - 2) == 13 then codes "\r\n" else codes "\n")

-- the place, where the line there is a heading line
abbrev pub if_heading : List ℕ → ℕ → Option ℕ
if_heading line at = if begins_heading line then Some at else None

-- where the line of a number begins, if it is a heading line, of lines of which the first begins at a place. Lines count from 1
unfoldable pub heading_from : ℕ → ℕ → List (List ℕ) → Option ℕ
heading_from number at [] = None
heading_from number at (l ∷ ls) = if number == 1 then if_heading l at else heading_from (number - 1) (at + length l) ls

-- the same of a text
abbrev pub heading_at : List ℕ → ℕ → Option ℕ
heading_at text number = heading_from number 0 (lines text)

-- where the headings below one of that level end, of lines of which the first begins at a place
unfoldable pub subtree_end : ℕ → ℕ → List (List ℕ) → ℕ
subtree_end level at [] = at
subtree_end level at (l ∷ ls) = if begins_heading l && nat_le (stars l) level then at else subtree_end level (at + length l) ls
