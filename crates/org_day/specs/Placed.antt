-- Rows in their sections, each in a line.
use Rattle.std.specs.Prelude.{◌≡◌, ℕ, ◌+◌, ◌==◌, Bool, true, false, not, if◌then◌else◌, List, [], ◌∷◌, Option, None, Some, slice_get, unwrap_or}
use Rattle.org_day.specs.Leads.{lead_of}
use Rattle.org_day.specs.Orders.{order_of}
use Rattle.org_day.specs.Sections.{rank_of, section_of}
use Rattle.org_day.specs.declared.lead.Lead.{Lead}
use Rattle.org_day.specs.declared.placed.Placed.{Placed}
use Rattle.org_day.specs.declared.section.Section.{Section}
use Rattle.org_day.specs.declared.section.Section.TheVariants.{AllDay, ByTheClock, Due, Late, Planned, DueSoon, Habits}
use Rattle.org_day.specs.declared.stand.Stand.{Stand}

-- a section whose rows are lines of their own
abbrev pub is_by_the_clock : Section → Bool
is_by_the_clock AllDay = false
is_by_the_clock ByTheClock = true
is_by_the_clock Due = false
is_by_the_clock Late = false
is_by_the_clock Planned = false
is_by_the_clock DueSoon = false
is_by_the_clock Habits = false

-- the place of a row that was found, or else a place
abbrev pub place_or : Option Lead → ℕ → ℕ
place_or None place = place
place_or (Some lead) place = lead.place

-- the place of the row in whose line a row stands: its own by the clock, else that of the first row of its heading
abbrev pub line_by : Stand → ℕ → Option Lead → ℕ
line_by stand place first = if is_by_the_clock (section_of stand) then place else place_or first place

abbrev pub line_of : List Stand → Stand → ℕ → ℕ
line_of stands stand place = line_by stand place (lead_of stands stand.heading)

-- a row in a line, where that has its row at a place
abbrev pub placed_in : Stand → ℕ → ℕ → Placed
placed_in first line place = record {
  rank = rank_of (section_of first);
  order = order_of first (section_of first);
  line = line;
  is_note = not (place == line);
  place = place;
}

-- the row at a place of all
abbrev pub placed_at : List Stand → Stand → ℕ → Placed
placed_at stands stand place = placed_in (unwrap_or (slice_get stands (line_of stands stand place)) stand) (line_of stands stand place) place

-- the rows from a place on
abbrev pub placed_from : List Stand → ℕ → List Stand → List Placed
placed_from stands place [] = []
placed_from stands place (stand ∷ rest) = placed_at stands stand place ∷ placed_from stands (place + 1) rest

abbrev pub placed_all : List Stand → List Placed
placed_all stands = placed_from stands 0 stands
