-- Laws of what sections say (Org Syntax, "Sections").
use Rattle.std.specs.Prelude.{◌≡◌, ◌≤◌, ◌++◌, ◌∷◌, [], ℕ, Bool, true, List, None, IfSome}
use Rattle.std.specs.List.{AllByRecursion}
use Rattle.std.specs.Option.{is_some}
use Rattle.org_class.specs.Classes.{section_classes}
use Rattle.org_class.specs.Sections.{is_cut}
use Rattle.org_settings.specs.Settings.{FileSettings}
use Rattle.org_class.specs.declared.class.Class.TheVariants.{Planning, Node, Clock}
use Rattle.org_drawer.specs.Clock.{clock_of}
use Rattle.org_drawer.specs.Node.{given_of}
use Rattle.org_drawer.specs.Planning.{planning_of}
use Rattle.org_entry.specs.Active.{stamps_under}
use Rattle.org_entry.specs.Entry.{PlacedLine, placed, entries_of, entry_of, heading_line}
use Rattle.org_entry.specs.Planning.{entry_planning, planning_from}
use Rattle.org_entry.specs.declared.active.EntryStamp.{EntryStamp}
use Rattle.org_head.specs.Head.{head_of}
use Rattle.org_lines.specs.Cuts.{lines}

-- a text that may be cut has the entries of its first part, then those of its second
abbrev pub EntriesAreOfSections : Type 0
EntriesAreOfSections = (settings : FileSettings) (a b : List ℕ) → is_cut a b ≡ true → entries_of settings (a ++ b) ≡ entries_of settings a ++ entries_of settings b

-- the head of an entry is that of its heading line
abbrev pub HeadsAreOfTheirLines : Type 0
HeadsAreOfTheirLines = (settings : FileSettings) (section : List ℕ) → IfSome (entry_of settings section).head (λ head. head ≡ head_of settings (heading_line (entry_of settings section)))

-- the planning of an entry is what the section's line of class Planning says
abbrev pub PlanningIsOfItsLine : Type 0
PlanningIsOfItsLine = (settings : FileSettings) (section : List ℕ) →
    entry_planning (entry_of settings section) ≡ planning_from None (placed 0 (lines section) (section_classes section))

-- a line of class Planning is read as planning, one of class Clock as a clock, and one of class Node as a property
pub record IsReadAsClassed (l : PlacedLine) : Type 0 where
  pub planning : l.class ≡ Planning → is_some (planning_of l.bytes) ≡ true
  pub clock : l.class ≡ Clock → is_some (clock_of l.bytes) ≡ true
  pub property : l.class ≡ Node → is_some (given_of l.bytes) ≡ true

-- each line of a section is read as its class says: a planning line as planning, a clock line as a clock, a node line as
-- a property
abbrev pub LinesAreRead : Type 0
LinesAreRead = (section : List ℕ) → AllByRecursion IsReadAsClassed (placed 0 (lines section) (section_classes section))

-- stamps stand from a place on, none before the one in front of it
abbrev pub Rise : ℕ → List EntryStamp → Type 0
Rise low [] = Unit {0}
Rise low (s ∷ ss) = (low ≤ s.at) × Rise s.at ss

-- the active stamps of an entry stand by their places in the section, those of its planning line among them
abbrev pub StampsRise : Type 0
StampsRise = (settings : FileSettings) (section : List ℕ) (opens : Bool) → Rise 0 (stamps_under opens (entry_of settings section))
