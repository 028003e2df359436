-- What is looked for among the lines of a section, from the first on (profile).
use Rattle.std.specs.Prelude.{ℕ, ◌+◌, ◌&&◌, Bool, true, false, if◌then◌else◌, List, [], ◌∷◌, length, slice_get, Option, None, is_some, Result}
use Rattle.org_amend.specs.Clocks.{running_of}
use Rattle.org_amend.specs.Places.{is_front, or_opened}
use Rattle.org_amend.specs.declared.place.DrawerSoFar.{DrawerSoFar}
use Rattle.org_amend.specs.declared.place.FrontSoFar.{FrontSoFar}
use Rattle.org_amend.specs.declared.running.FirstRunning.{FirstRunning}
use Rattle.org_base.specs.Results.{Gives}
use Rattle.org_base.specs.declared.span.Span.{Span}
use Rattle.org_class.specs.Drawers.{is_drawer_end}
use Rattle.org_class.specs.declared.class.Class.{Class}
use Rattle.org_lines.specs.Cuts.{lines_in}

-- what is known after lines, of which the first has the class at this place and begins at that one, where so much is known
-- before; once it is over no line is looked at
unfoldable pub searched : {S : Type 0} → (S → Option Class → ℕ → List ℕ → S) → (S → Bool) → S → List Class → ℕ → ℕ → List (List ℕ) → S
searched after over known cs place at [] = known
searched after over known cs place at (l ∷ ls) =
    if over known then known else searched after over (after known (slice_get cs place) at l) cs (place + 1) (at + length l) ls

-- what is found among the lines of a section of a text, unless it's refused
abbrev pub Finds : {S E : Type 0} → Result S E → (S → Option Class → ℕ → List ℕ → S) → (S → Bool) → S → List ℕ → Span → List Class → Type 0
Finds result after over start text section cs = Gives result (searched after over start cs 0 section.at (lines_in text section))

-- the first running clock among lines

abbrev pub running_after : FirstRunning → Option Class → ℕ → List ℕ → FirstRunning
running_after known class at line = record { found = running_of class at line }

abbrev pub is_found : FirstRunning → Bool
is_found known = is_some known.found

-- where the front ends: behind a line of it, or before another

abbrev pub front_after : FrontSoFar → Option Class → ℕ → List ℕ → FrontSoFar
front_after known class at line = if is_front class then record { end = at + length line; is_over = false } else record { end = known.end; is_over = true }

abbrev pub is_past : FrontSoFar → Bool
is_past known = known.is_over

-- the drawer that is open, and whether it ended

abbrev pub drawer_after : DrawerSoFar → Option Class → ℕ → List ℕ → DrawerSoFar
drawer_after known class at line =
    if is_some known.opening && is_drawer_end line then record { name = known.name; opening = known.opening; is_ended = true }
    else record { name = known.name; opening = or_opened known.name known.opening class at line; is_ended = known.is_ended }

abbrev pub is_ended : DrawerSoFar → Bool
is_ended known = known.is_ended

abbrev pub ended_drawer : DrawerSoFar → Option Span
ended_drawer known = if known.is_ended then known.opening else None
