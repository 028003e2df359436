-- Words of the proofs about Inner: parts of its definitions.
use Rattle.std.specs.Prelude.{ℕ, Bool, List, ◌∷◌, Option, Some, None}
use Rattle.org_stamp.specs.declared.stamp.Stamp.{Stamp}
use Rattle.org_stamp.specs.Inner.{after_time}

-- the stamp of a date and the words after its name: a time or none, then marks
abbrev pub timed : Bool → ℕ → List ℕ → List (List ℕ) → Option (ℕ × Option ℕ) → Option Stamp
timed active day w ws found = elim found
    [ None ↦ after_time active day None None (w ∷ ws) | Some times ↦ after_time active day (Some times.0) times.1 ws ]
