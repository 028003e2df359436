-- What goes where a clock is cancelled (profile, as Org does it; that an empty line stays where a line behind it would be read
-- as planning or as a property: profile).
-- Characters by their codes: 13 carriage return.
use Rattle.std.specs.Prelude.{ℕ, ◌+◌, ◌-◌, ◌==◌, ◌&&◌, ◌≤◌, Bool, nat_le, nat_lt, if◌then◌else◌, List, [], ◌∷◌, ◌++◌, length, slice_index, Option, Some, None}
use Rattle.std.specs.List.{prefix_len, slice_range}
use Rattle.std.specs.Str.{is_utf8}
use Rattle.org_amend.specs.Places.{is_front, logbook_in}
use Rattle.org_amend.specs.declared.running.RunningClock.{RunningClock}
use Rattle.org_base.specs.Spans.{bytes_in}
use Rattle.org_base.specs.declared.span.Span.{Span}
use Rattle.org_class.specs.Classes.{section_classes}
use Rattle.org_class.specs.Drawers.{is_drawer_end}
use Rattle.org_class.specs.declared.class.Class.{Class}
use Rattle.org_lines.specs.Cuts.{lines_in}

-- the clock's line
abbrev pub line_part : RunningClock → Span
line_part clock = record { at = clock.at; len = clock.len }

-- what stands behind it in its section
abbrev pub behind_clock : Span → RunningClock → Span
behind_clock section clock = record { at = clock.at + clock.len; len = section.at + section.len - (clock.at + clock.len) }

-- how long the end of a drawer is that stands first; 0 where something else does
abbrev pub closing_len : List (List ℕ) → ℕ
closing_len [] = 0
closing_len (l ∷ ls) = if is_drawer_end l then length l else 0

-- the clock's line; where it is all that stands in the drawer, the drawer
abbrev pub emptied_part : Option Span → RunningClock → ℕ → Span
emptied_part None clock closing = line_part clock
emptied_part (Some drawer) clock closing =
    if (drawer.at + drawer.len == clock.at) && nat_lt 0 closing then record { at = drawer.at; len = drawer.len + clock.len + closing } else line_part clock

-- the lines that go with a running clock of a section
abbrev pub emptied_in : List ℕ → Span → List Class → RunningClock → Span
emptied_in text section cs clock = emptied_part (logbook_in text section cs) clock (closing_len (lines_in text (behind_clock section clock)))

-- of the lines of a section, how many at the front are the heading, its planning line and its property drawer
abbrev pub front_lines : List Class → ℕ
front_lines cs = prefix_len (λ c. is_front (Some c)) cs

-- a section of a text without a part
abbrev pub section_without : List ℕ → Span → Span → List ℕ
section_without text section part = slice_range text section.at part.at ++ slice_range text (part.at + part.len) (section.at + section.len)

-- text, of whose lines so many are the front
abbrev pub has_front : List ℕ → ℕ → Bool
has_front left front = is_utf8 left && (front_lines (section_classes left) == front)

-- how long the end of a line is: a line feed, with a carriage return before it or without
abbrev pub end_len : List ℕ → ℕ
end_len line = if nat_le 2 (length line) && (slice_index line (length line - 2) == 13) then 2 else 1

-- a part of a text but for the end of its last line, which is an empty line then
abbrev pub but_end : List ℕ → Span → Span
but_end text part = record { at = part.at; len = part.len - end_len (bytes_in text part) }

-- a part of a section, whole where the front of the section is without it what it is; else an empty line stays
abbrev pub guarded_part : List ℕ → Span → List Class → Span → Span
guarded_part text section cs part = if has_front (section_without text section part) (front_lines cs) then part else but_end text part

-- what goes with a running clock of a section
unfoldable pub cancelled_part : List ℕ → Span → List Class → RunningClock → Span
cancelled_part text section cs clock = guarded_part text section cs (emptied_in text section cs clock)

-- a part lies in a section
abbrev pub LiesIn : Span → Span → Type 0
LiesIn section part = (section.at ≤ part.at) × (part.at + part.len ≤ section.at + section.len)
