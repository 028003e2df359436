-- Words of the proofs about Pair: parts of its definitions.
use Rattle.std.specs.Prelude.{ℕ, ◌+◌, ◌-◌, Bool, if◌then◌else◌, List, [], ◌∷◌, Option, Some, None, is_some}
use Rattle.org_stamp.specs.declared.pair.Pair.{Pair}
use Rattle.org_stamp.specs.declared.stamp.Stamp.{Stamp}

-- a pair and those after it; none where there is no pair
abbrev pub pair_and : ℕ → (ℕ → List Pair) → Option Pair → List Pair
pair_and at later found = elim found [ None ↦ [] | Some p ↦ p ∷ later (p.end - (at + 1)) ]

-- the stamp, if it is inactive
abbrev pub if_inactive : Stamp → Option Stamp
if_inactive s = if s.active then None else Some s

-- there is a stamp
abbrev pub is_some_stamp : Option Stamp → Bool
is_some_stamp found = is_some found
