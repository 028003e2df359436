-- Words of the proofs about Heading: parts of its definitions.
use Rattle.std.specs.Prelude.{ℕ, Bool, ◌==◌}

-- the byte `*`
abbrev pub is_star : ℕ → Bool
is_star b = b == 42
