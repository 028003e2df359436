-- What a section says (Org Syntax, "Sections"; which stamps are plain ones, and that places count from the section's
-- start: profile).
use Rattle.std.specs.Prelude.{ℕ, ◌+◌, if◌then◌else◌, List, [], ◌∷◌, length, map, get_or, Option, Some, None, fold}
use Rattle.std.specs.List.{flat_map}
use Rattle.std.specs.Option.{option_to_list}
use Rattle.org_class.specs.Classes.{section_classes}
use Rattle.org_class.specs.Sections.{sections}
use Rattle.org_settings.specs.Settings.{FileSettings}
use Rattle.org_class.specs.declared.class.Class.{Class}
use Rattle.org_class.specs.declared.class.Class.TheVariants.{Heading, Planning as PlanningLine, Node, Clock, Setting, Plain}
use Rattle.org_drawer.specs.Clock.{clock_of}
use Rattle.org_drawer.specs.Node.{drawer_of}
use Rattle.org_drawer.specs.declared.clock.ClockLine.{ClockLine}
use Rattle.org_entry.specs.declared.entry.Entry.{Entry}
use Rattle.org_head.specs.Head.{head_of}
use Rattle.org_base.specs.Spans.{bytes_in}
use Rattle.org_head.specs.declared.head.Head.{Head}
use Rattle.org_lines.specs.Cuts.{lines}
use Rattle.org_stamp.specs.Line.{stamps_of as stamps_of_line}
use Rattle.org_stamp.specs.declared.stamp.Found.{Found}

-- a line of a section: where it begins in the section, its class and its bytes
pub record PlacedLine : Type 0 where
  pub at : ℕ
  pub class : Class
  pub bytes : List ℕ

-- lines with their classes, the first one at the place
abbrev pub placed : ℕ → List (List ℕ) → List Class → List PlacedLine
placed at (l ∷ ls) (c ∷ cs) = record { at = at; class = c; bytes = l } ∷ placed (at + length l) ls cs
placed at _ _ = []

-- what a line gives to the entry's text: a heading line and a planning line give themselves
abbrev pub text_of : Class → List ℕ → List ℕ
text_of Heading bytes = bytes
text_of PlanningLine bytes = bytes
text_of _ bytes = []

-- what a line gives to the drawer's lines: a node line gives itself
abbrev pub nodes_of : Class → List ℕ → List (List ℕ)
nodes_of Node bytes = bytes ∷ []
nodes_of _ bytes = []

-- the clock that a line gives, if it is a clock line
abbrev pub clocks_of : Class → List ℕ → List ClockLine
clocks_of Clock bytes = option_to_list (clock_of bytes)
clocks_of _ bytes = []

-- a stamp so much further, if it is active
abbrev pub if_active : ℕ → Found → List Found
if_active at f = if f.stamp.active then record { at = at + f.at; len = f.len; stamp = f.stamp } ∷ [] else []

-- the active stamps of bytes that begin at the place of the section
abbrev pub active_at : ℕ → List ℕ → List Found
active_at at bytes = flat_map (if_active at) (stamps_of_line bytes)

-- the active stamps of the title of a heading line that begins at the place of the section
abbrev pub title_stamps : FileSettings → ℕ → List ℕ → List Found
title_stamps settings at bytes = let title = (head_of settings bytes).title in active_at (at + title.at) (bytes_in bytes title)

-- the plain stamps that a line gives: those of the title, and of setting lines and plain lines
abbrev pub stamps_of : FileSettings → ℕ → Class → List ℕ → List Found
stamps_of settings at Heading bytes = title_stamps settings at bytes
stamps_of settings at Setting bytes = active_at at bytes
stamps_of settings at Plain bytes = active_at at bytes
stamps_of settings at _ bytes = []

-- the head after one more line: that of a heading line, else the one so far
abbrev pub head_after : FileSettings → Option Head → Class → List ℕ → Option Head
head_after settings so_far Heading bytes = Some (head_of settings bytes)
head_after settings so_far _ bytes = so_far

-- the entry of placed lines
abbrev pub entry_of_lines : FileSettings → List PlacedLine → Entry
entry_of_lines settings ls = record {
  text = flat_map (λ l. text_of l.class l.bytes) ls;
  head = fold (λ so_far l. head_after settings so_far l.class l.bytes) None ls;
  details = record {
    drawer = drawer_of (flat_map (λ l. nodes_of l.class l.bytes) ls);
    stamps = flat_map (λ l. stamps_of settings l.at l.class l.bytes) ls;
    clocks = flat_map (λ l. clocks_of l.class l.bytes) ls;
  };
}

-- the entry of a section in a file with these settings
abbrev pub entry_of : FileSettings → List ℕ → Entry
entry_of settings section = entry_of_lines settings (placed 0 (lines section) (section_classes section))

-- the entries of a text's sections, in order
abbrev pub entries_of : FileSettings → List ℕ → List Entry
entries_of settings text = map (entry_of settings) (sections text)

-- the heading line of an entry: the first line of its text, which is empty where there is none
abbrev pub heading_line : Entry → List ℕ
heading_line entry = get_or (lines entry.text) 0 []
