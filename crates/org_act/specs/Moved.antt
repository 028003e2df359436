-- The stamps of a planning line that have moved, as they do where a task that repeats is done.
use Rattle.std.specs.Prelude.{ℕ, ◌+◌, Bool, not, if◌then◌else◌, List, [], ◌∷◌, ◌++◌, bytes_eq}
use Rattle.std.specs.List.{slice_range}
use Rattle.org_stamp.specs.Pair.{pairs}
use Rattle.org_stamp.specs.declared.pair.Pair.{Pair}

-- the bytes of a pair's stamp; of a range those of the first one
abbrev pub stamp_bytes : List ℕ → Pair → List ℕ
stamp_bytes line p = slice_range line p.at (p.at + p.len)

-- the stamp of a pair differs from that of one of an older line
abbrev pub has_moved : List ℕ → List ℕ → Pair → Pair → Bool
has_moved old new before p = not (bytes_eq (stamp_bytes old before) (stamp_bytes new p))

-- the pair, if it is wanted
abbrev pub pair_if : Bool → Pair → List Pair
pair_if wanted p = if wanted then p ∷ [] else []

-- the pairs of a new line whose stamps differ from those in their places in the old one
abbrev pub moved_in : List ℕ → List ℕ → List Pair → List Pair → List Pair
moved_in old new ps [] = []
moved_in old new [] (q ∷ qs) = []
moved_in old new (p ∷ ps) (q ∷ qs) = pair_if (has_moved old new p q) q ++ moved_in old new ps qs

-- the same of all pairs of two lines
abbrev pub moved_pairs : List ℕ → List ℕ → List Pair
moved_pairs old new = moved_in old new (pairs old) (pairs new)
