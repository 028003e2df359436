-- Words of the proofs about Line: parts of its definitions.
use Rattle.std.specs.Prelude.{ℕ, ◌-◌, List, ◌∷◌, Option, Some, None}
use Rattle.org_stamp.specs.declared.stamp.Found.{Found}
use Rattle.org_stamp.specs.declared.stamp.Stamp.{Stamp}

-- a stamp that was found at a place, and those after it
abbrev pub one_more : ℕ → (ℕ → List Found) → Option (Stamp × ℕ) → List Found
one_more at later found = elim found [ None ↦ later 0 | Some f ↦ record { at = at; len = f.1; stamp = f.0 } ∷ later (f.1 - 1) ]
