-- What the planning line of a section says (Org Syntax, "Planning"; that places count from the section's start:
-- profile).
use Rattle.std.specs.Prelude.{ℕ, ◌+◌, List, [], ◌∷◌, length, drop, Option}
use Rattle.std.specs.Option.{option_map}
use Rattle.org_base.specs.declared.span.Span.{Span}
use Rattle.org_class.specs.declared.class.Class.{Class}
use Rattle.org_class.specs.declared.class.Class.TheVariants.{Planning as PlanningLine}
use Rattle.org_drawer.specs.Planning.{planning_of}
use Rattle.org_drawer.specs.declared.planning.Planning.{Planning}
use Rattle.org_entry.specs.Entry.{PlacedLine, heading_line}
use Rattle.org_entry.specs.declared.entry.Entry.{Entry}
use Rattle.org_stamp.specs.declared.stamp.Stamp.{Stamp}

-- a stamp, with its part of the text so many bytes further on
abbrev pub moved_stamp : ℕ → Stamp × Span → Stamp × Span
moved_stamp at s = (s.0, record { at = at + s.1.at; len = s.1.len })

-- planning, with the parts of its stamps so many bytes further on
abbrev pub moved : ℕ → Planning → Planning
moved at p = record {
  scheduled = option_map (moved_stamp at) p.scheduled;
  deadline = option_map (moved_stamp at) p.deadline;
  closed = option_map (moved_stamp at) p.closed;
}

-- the planning of an entry: what stands after the heading line in the entry's text says it
abbrev pub entry_planning : Entry → Option Planning
entry_planning entry = let at = length (heading_line entry) in option_map (moved at) (planning_of (drop at entry.text))

-- the planning after one more line of a section
abbrev pub planning_after : Option Planning → ℕ → Class → List ℕ → Option Planning
planning_after so_far at PlanningLine bytes = option_map (moved at) (planning_of bytes)
planning_after so_far at _ bytes = so_far

-- the planning that lines say, after what was said before
abbrev pub planning_from : Option Planning → List PlacedLine → Option Planning
planning_from so_far [] = so_far
planning_from so_far (l ∷ ls) = planning_from (planning_after so_far l.at l.class l.bytes) ls
