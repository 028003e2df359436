-- Which stamps can matter to the days from one to another (profile; delays and warnings as in Org manual 9.6, "Deadlines
-- and Scheduling").
use Rattle.std.specs.Prelude.{◌≡◌, ◌↔◌, ℕ, Contains, IsTrue, nat_le, Bool, false, ◌&&◌, ◌||◌, List, length, Option, Some, None}
use Rattle.std.specs.Ordering.{nat_cmp}
use Rattle.std.specs.BTreeMap.{insert_entry, is_at}
use Rattle.std.specs.List.{filter}
use Rattle.std.specs.Map.{keys_of, lookup}
use Rattle.org_base.specs.Counts.{Counts}
use Rattle.org_base.specs.declared.profile.Profile.{Profile}
use Rattle.org_stamp.specs.declared.stamp.Stamp.{Stamp}
use Rattle.org_index.specs.Reaches.{reach_of}
use Rattle.org_index.specs.DaySet.{Has}
use Rattle.org_index.specs.Ticks.{examined}
use Rattle.org_index.specs.declared.reach.Reach.{Reach}

-- the day is one of those
abbrev pub lies_in : ℕ → ℕ → ℕ → Bool
lies_in from to day = nat_le from day && nat_le day to

-- it repeats, from a day no later than the last; or one of its written days lies in the days, or its day plus its delay
abbrev pub touches : ℕ → ℕ → Reach → Bool
touches from to e = (nat_le e.first to && (e.repeats || nat_le from e.last)) || lies_in from to e.delayed

-- today lies in the days, and its day less its warning time is no later
abbrev pub warns : ℕ → ℕ → ℕ → Reach → Bool
warns from to today e = lies_in from to today && nat_le e.warned today

-- one or the other
abbrev pub meets : ℕ → ℕ → ℕ → Reach → Bool
meets from to today e = touches from to e || warns from to today e

-- the stamp is near the days
abbrev pub is_near : Profile → ℕ → ℕ → ℕ → Stamp → Bool
is_near p from to today s = meets from to today (reach_of p s)

-- what is kept, if anything is, is near
abbrev pub meets_if : ℕ → ℕ → ℕ → Option Reach → Bool
meets_if from to today None = false
meets_if from to today (Some e) = meets from to today e

-- the id is that of a stamp that is near
abbrev pub is_candidate : List (ℕ × Reach) → ℕ → ℕ → ℕ → ℕ → Bool
is_candidate pairs from to today id = meets_if from to today (lookup (is_at (nat_cmp id)) pairs)

-- the ids of the stamps that are near, and how many they are
abbrev pub candidate_ids : ℕ → ℕ → ℕ → List (ℕ × Reach) → List ℕ
candidate_ids from to today pairs = keys_of (filter (λ p. meets from to today p.1) pairs)

abbrev pub candidate_count : ℕ → ℕ → ℕ → List (ℕ × Reach) → ℕ
candidate_count from to today pairs = length (candidate_ids from to today pairs)

-- the same of those that touch the days, whatever day is today
abbrev pub touches_if : ℕ → ℕ → Option Reach → Bool
touches_if from to None = false
touches_if from to (Some e) = touches from to e

abbrev pub is_touching : List (ℕ × Reach) → ℕ → ℕ → ℕ → Bool
is_touching pairs from to id = touches_if from to (lookup (is_at (nat_cmp id)) pairs)

abbrev pub touching_ids : ℕ → ℕ → List (ℕ × Reach) → List ℕ
touching_ids from to pairs = keys_of (filter (λ p. touches from to p.1) pairs)

abbrev pub touching_count : ℕ → ℕ → List (ℕ × Reach) → ℕ
touching_count from to pairs = length (touching_ids from to pairs)

-- an id is among these just where its stamp is near
abbrev pub AreCandidates : List (ℕ × Reach) → ℕ → ℕ → ℕ → List ℕ → Type 0
AreCandidates pairs from to today ids = (id : ℕ) → Contains ids id ↔ IsTrue (is_candidate pairs from to today id)

-- the ids of all stamps that are near are among these
abbrev pub HasCandidates : List (ℕ × Reach) → ℕ → ℕ → ℕ → List ℕ → Type 0
HasCandidates pairs from to today found = (id : ℕ) → IsTrue (is_candidate pairs from to today id) → Has found id

-- each was examined, and nothing else was counted
abbrev pub CountsCandidates : List (ℕ × Reach) → ℕ → ℕ → ℕ → Counts → Counts → Type 0
CountsCandidates pairs from to today old new = new ≡ examined (candidate_count from to today pairs) old

-- one id more, with what is kept of its stamp
abbrev pub with_reach : List (ℕ × Reach) → ℕ → Reach → List (ℕ × Reach)
with_reach pairs id reach = insert_entry nat_cmp pairs id reach

-- the same of those that touch the days
abbrev pub AreTouching : List (ℕ × Reach) → ℕ → ℕ → List ℕ → Type 0
AreTouching pairs from to ids = (id : ℕ) → Contains ids id ↔ IsTrue (is_touching pairs from to id)

abbrev pub CountsTouching : List (ℕ × Reach) → ℕ → ℕ → Counts → Counts → Type 0
CountsTouching pairs from to old new = new ≡ examined (touching_count from to pairs) old
