-- Worked examples: what the definitions say of inputs at which a wrong rule says something else.
use Rattle.std.specs.Prelude.{◌≡◌, ℕ, ◌+◌, ◌*◌, Bool, true, false, List, [], ◌∷◌, None, Some, length, replicate}
use Rattle.org_cal.specs.Minutes.{minute_of}
use Rattle.org_cal.specs.declared.moment.Moment.{Moment}
use Rattle.org_clocktable.specs.Counted.{Counted, counted_of}
use Rattle.org_clocktable.specs.Table.{step_rows}
use Rattle.org_clocktable.specs.declared.row.Of.TheVariants.{All, File, Heading}
use Rattle.org_drawer.specs.declared.clock.ClockLine.{ClockLine}
use Rattle.org_entry.specs.declared.entry.Entry.{Entry}
use Rattle.org_inherit.specs.Scope.{Scope}

-- a day with clocks, 28 February 2024, by its number
abbrev pub clocked_day : ℕ
clocked_day = 738_944

-- a clock of one hour, from an hour of that day on
abbrev pub clock_from : ℕ → ClockLine
clock_from hour = record { from = minute_of clocked_day (60 * hour); to = Some (minute_of clocked_day (60 * (hour + 1))) }

-- a heading of a level with these clocks and nothing else, but for COMMENT, which hides it
abbrev pub heading : Bool → ℕ → List ClockLine → Entry
heading comment level clocks = record {
  text = [];
  head = Some (record { level = level; comment = comment; keyword = None; priority = None; title = record { at = 0; len = 0 }; tags = [] });
  details = record { drawer = []; stamps = []; clocks = clocks };
}

-- the same without COMMENT
abbrev pub heading_with : ℕ → List ClockLine → Entry
heading_with level clocks = heading false level clocks

-- a file of these entries, all of which count
abbrev pub all_of : List Entry → Counted
all_of entries = record { entries = entries; counted = replicate (length entries) true }

-- a heading with an hour, and one below it with an hour more
abbrev pub two_hours : Counted
two_hours = all_of (heading_with 1 (clock_from 10 ∷ []) ∷ heading_with 2 (clock_from 11 ∷ []) ∷ [])

-- down to level 1 the hours of a heading below count in the one above it and it has no line of its own; a file without clocks has
-- none either; and a hidden heading counts (Org manual 9.6, "The clock table"; profile)
pub record ExamplesHold : Type 0 where
  pub down_to_level_one : step_rows (clocked_day, clocked_day) 1 (two_hours ∷ all_of (heading_with 1 [] ∷ []) ∷ []) ≡
      record { of = All; clock = 120; effort = 0 }
      ∷ record { of = File 0; clock = 120; effort = 0 }
      ∷ record { of = Heading 0 0 1; clock = 120; effort = 0 }
      ∷ []
  pub hidden_counts : (moment : Moment) (scope : Scope) → (counted_of None moment (record scope { entries = heading true 1 [] ∷ [] })).counted ≡ true ∷ []
