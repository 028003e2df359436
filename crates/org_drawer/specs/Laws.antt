-- Laws of what lines say (Org Syntax, "Node Properties"; "Clocks"; Org manual 9.6, "Effort Estimates").
use Rattle.std.specs.Prelude.{◌≡◌, ◌↔◌, ℕ, ◌+◌, ◌-◌, ◌≤◌, true, List, length, take, drop, Option, Some, IfSome}
use Rattle.std.specs.List.{sum_by, count_by, filter_map, range_with_len}
use Rattle.org_base.specs.Properties.{Given, value_in, value_of}
use Rattle.org_base.specs.Words.{trim_start, trimmed, first_word}
use Rattle.org_base.specs.declared.span.Span.{Span}
use Rattle.org_cal.specs.Minutes.{minute_of}
use Rattle.org_cal.specs.Pieces.{AreJoined}
use Rattle.org_stamp.specs.Stamp.{IsSingle}
use Rattle.org_stamp.specs.declared.stamp.Stamp.{Stamp}
use Rattle.org_drawer.specs.Clock.{minutes_in, runs_at}
use Rattle.org_drawer.specs.Effort.{effort_of}
use Rattle.org_drawer.specs.Node.{given_of, drawer_of, is_name, node_word}
use Rattle.org_drawer.specs.Planning.{planning_of}
use Rattle.org_drawer.specs.Spelled.{IsEffort}
use Rattle.org_drawer.specs.declared.clock.ClockLine.{ClockLine}
use Rattle.org_drawer.specs.declared.planning.Planning.{Planning}

-- a line gives a name and a value exactly where its first word is that of such a name, and the rest, trimmed, is the value
abbrev pub NodesAreSpelled : Type 0
NodesAreSpelled = (line : List ℕ) (g : Given) → (given_of line ≡ Some g) ↔
    ((first_word line ≡ node_word g.name g.appends) × (is_name g.name ≡ true) × (g.value ≡ trimmed (drop (length (first_word line)) (trim_start line))))

-- what a name has in a drawer is the value that the node lines give to it
abbrev pub DrawersHaveValues : Type 0
DrawersHaveValues = (lines : List (List ℕ)) (name : List ℕ) → value_in (drawer_of lines) name ≡ value_of name (filter_map given_of lines)

-- the minutes of a closed clock in days are as many as there are minutes of the days in which it runs
abbrev pub MinutesAreCounted : Type 0
MinutesAreCounted = (from to first last : ℕ) → minutes_in (record { from = from; to = Some to }) (first, last)
    ≡ count_by (runs_at from to) (range_with_len (minute_of first 0) (minute_of (last + 1) 0 - minute_of first 0))

-- what a clock has in pieces that join to a period is in sum what it has in the whole
abbrev pub PiecesMakeTheWhole : Type 0
PiecesMakeTheWhole = (clock : ClockLine) (first last : ℕ) (pieces : List (ℕ × ℕ)) → 1 ≤ first → AreJoined first pieces last →
    sum_by (minutes_in clock) pieces ≡ minutes_in clock (first, last)

-- a clock that ends before it starts has no minutes in any period
abbrev pub ReversedClocksHaveNone : Type 0
ReversedClocksHaveNone = (from to first last : ℕ) → to ≤ from → minutes_in (record { from = from; to = Some to }) (first, last) ≡ 0

-- a kept stamp, if there is one, is what stands in its part of the line
abbrev pub IsThere : List ℕ → Option (Stamp × Span) → Type 0
IsThere line found = IfSome found (λ s. IsSingle (take s.1.len (drop s.1.at line)) s.0)

-- what stands in a planning line where a kept stamp has its part is that stamp
abbrev pub PlanningIsThere : Type 0
PlanningIsThere = (line : List ℕ) (planning : Planning) → planning_of line ≡ Some planning →
    IsThere line planning.scheduled × IsThere line planning.deadline × IsThere line planning.closed

-- an effort is read just where it is spelled, with the minutes that are spelled
abbrev pub EffortsAreSpelled : Type 0
EffortsAreSpelled = (text : List ℕ) (minutes : ℕ) → (effort_of text ≡ Some minutes) ↔ IsEffort text minutes
