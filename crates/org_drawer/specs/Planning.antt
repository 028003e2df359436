-- What a planning line says (Org Syntax, "Planning"; that of a repeated keyword the last counts, and that a range
-- counts as its first stamp: profile).
use Rattle.std.specs.Prelude.{ℕ, ◌+◌, ◌≤◌, Bool, true, false, if◌then◌else◌, List, [], ◌∷◌, length, Option, Some, None, IfSome}
use Rattle.std.specs.Option.{option_or}
use Rattle.org_base.specs.declared.span.Span.{Span}
use Rattle.org_stamp.specs.Pair.{pairs, is_planning}
use Rattle.org_stamp.specs.declared.pair.Pair.{Pair}
use Rattle.org_stamp.specs.declared.pair.PlanningKeyword.{PlanningKeyword}
use Rattle.org_stamp.specs.declared.pair.PlanningKeyword.TheVariants.{Scheduled, Deadline, Closed}
use Rattle.org_stamp.specs.declared.stamp.Stamp.{Stamp}
use Rattle.org_drawer.specs.declared.planning.Planning.{Planning}

-- the keywords are equal
abbrev pub is_same : PlanningKeyword → PlanningKeyword → Bool
is_same Scheduled Scheduled = true
is_same Deadline Deadline = true
is_same Closed Closed = true
is_same _ _ = false

-- a pair's stamp and its part of the line, where it has the keyword
abbrev pub stamp_if : PlanningKeyword → Pair → Option (Stamp × Span)
stamp_if word p = if is_same word p.word then Some (p.stamp, record { at = p.at; len = p.len }) else None

-- the stamp of the last pair with the keyword
abbrev pub last_of : PlanningKeyword → List Pair → Option (Stamp × Span)
last_of word [] = None
last_of word (p ∷ ps) = option_or (last_of word ps) (stamp_if word p)

-- what pairs say: for each keyword the stamp of its last pair
abbrev pub planned : List Pair → Planning
planned ps = record { scheduled = last_of Scheduled ps; deadline = last_of Deadline ps; closed = last_of Closed ps }

-- planning with one more pair, which counts before those of its keyword so far
abbrev pub with_pair : Planning → Pair → Planning
with_pair planning p = record {
  scheduled = option_or (stamp_if Scheduled p) planning.scheduled;
  deadline = option_or (stamp_if Deadline p) planning.deadline;
  closed = option_or (stamp_if Closed p) planning.closed;
}

-- what a planning line says; nothing where the line is none
abbrev pub planning_of : List ℕ → Option Planning
planning_of line = if is_planning line then Some (planned (pairs line)) else None

-- what planning says under a keyword
abbrev pub stamp_under : PlanningKeyword → Planning → Option (Stamp × Span)
stamp_under Scheduled planning = planning.scheduled
stamp_under Deadline planning = planning.deadline
stamp_under Closed planning = planning.closed

-- the part of a stamp, if there is one, lies within the line
abbrev pub IsInside : List ℕ → Option (Stamp × Span) → Type 0
IsInside line found = IfSome found (λ s. s.1.at + s.1.len ≤ length line)

-- all stamps lie within the line
pub record AreInside (line : List ℕ) (planning : Planning) : Type 0 where
  pub scheduled : IsInside line planning.scheduled
  pub deadline : IsInside line planning.deadline
  pub closed : IsInside line planning.closed
