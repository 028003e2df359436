-- What stays of a text where one of its sections is written anew.
use Rattle.std.specs.Prelude.{ℕ, Bool, false, ◌&&◌, nat_lt, bytes_eq, if◌then◌else◌, List, length, take, drop, Option, Some, None}
use Rattle.org_act.specs.Lines.{first_line, heading_at, subtree_end}
use Rattle.org_base.specs.Words.{trim_end}
use Rattle.org_class.specs.Heading.{begins_heading}
use Rattle.org_lines.specs.Cuts.{lines}

-- where the first section ends of a text that begins with a heading: at the next one, of whatever level
abbrev pub section_end : List ℕ → ℕ
section_end text = subtree_end (length text) (length (first_line text)) (lines (drop (length (first_line text)) text))

-- what stands behind it
abbrev pub behind_section : List ℕ → List ℕ
behind_section text = drop (section_end text) text

-- two texts that begin with the same heading line, but for white space at its end, have the same bytes behind their first sections
abbrev pub keeps_section : List ℕ → List ℕ → Bool
keeps_section old new =
    begins_heading new
    && (bytes_eq (trim_end (first_line new)) (trim_end (first_line old)) && bytes_eq (behind_section new) (behind_section old))

-- a text has all that an older one has before a place and behind the section that begins there, and its heading line
abbrev pub keeps_from : List ℕ → ℕ → List ℕ → Bool
keeps_from old at new =
    if nat_lt (length new) at then false else bytes_eq (take at new) (take at old) && keeps_section (drop at old) (drop at new)

abbrev pub keeps_at : List ℕ → Option ℕ → List ℕ → Bool
keeps_at old None new = false
keeps_at old (Some at) new = keeps_from old at new

-- the same of the heading on a line
abbrev pub keeps_others : List ℕ → ℕ → List ℕ → Bool
keeps_others old line new = keeps_at old (heading_at old line) new
