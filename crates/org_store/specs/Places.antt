-- Where sections begin in texts (Org Syntax, "Headings and Sections"; that lines count from 1: profile).
use Rattle.std.specs.Prelude.{◌≡◌, ℕ, ◌+◌, ◌-◌, List, Option, None, Some, if◌then◌else◌, length, drop, take, nat_lt, slice_get}
use Rattle.org_class.specs.Sections.{sections}
use Rattle.org_store.specs.Begun.{lines_before, section_start}
use Rattle.org_store.specs.declared.place.Place.{Place}
use Rattle.org_lines.specs.Cuts.{lines}

-- where the section at a place begins, if there is one: after the bytes and the lines of those before it
abbrev pub place_at : List ℕ → ℕ → Option Place
place_at text section = if nat_lt section (length (sections text))
    then Some (record { at = section_start text section; line = lines_before text section + 1 }) else None

-- at a place the text has a line: from the byte on it begins with the line, and it is the text's line of that number
pub record HasLine (text : List ℕ) (place : Place) (line : List ℕ) : Type 0 where
  pub bytes : take (length line) (drop place.at text) ≡ line
  pub number : slice_get (lines text) (place.line - 1) ≡ Some line
