-- The sections of a text by their places and their first lines (Org Syntax, "Headings and Sections"; that they are
-- found by lines: profile).
use Rattle.std.specs.Prelude.{◌≡◌, ℕ, ◌+◌, ◌-◌, ◌<◌, ◌&&◌, Bool, false, List, [], Option, None, Some, length, take, get_or, nat_lt, slice_get}
use Rattle.std.specs.List.{concat, flat_map}
use Rattle.org_class.specs.Heading.{begins_heading}
use Rattle.org_class.specs.Sections.{sections}
use Rattle.org_entry.specs.Entry.{entry_of}
use Rattle.org_entry.specs.declared.entry.Entry.{Entry}
use Rattle.org_store.specs.Outline.{file_settings}
use Rattle.org_lines.specs.Cuts.{lines}

-- how many lines stand before the section at a place
abbrev pub lines_before : List ℕ → ℕ → ℕ
lines_before text place = length (flat_map lines (take place (sections text)))

-- the section at a place begins with the line. Lines count from 1
pub record IsBegunBy (text : List ℕ) (line place : ℕ) : Type 0 where
  pub within : place < length (sections text)
  pub first : line ≡ lines_before text place + 1

-- the section at a place
abbrev pub section_of : List ℕ → ℕ → List ℕ
section_of text place = get_or (sections text) place []

-- where the section at a place begins in the text
abbrev pub section_start : List ℕ → ℕ → ℕ
section_start text place = length (concat (take place (sections text)))

-- what that section says
abbrev pub entry_there : List ℕ → ℕ → Entry
entry_there text place = entry_of (file_settings text) (section_of text place)

-- a line is there, and is a heading line
abbrev pub is_heading_line : Option (List ℕ) → Bool
is_heading_line None = false
is_heading_line (Some line) = begins_heading line

-- a heading stands on the line of the text. Lines count from 1
abbrev pub has_heading : List ℕ → ℕ → Bool
has_heading text line = nat_lt 0 line && is_heading_line (slice_get (lines text) (line - 1))
