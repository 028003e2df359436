-- Words of the proofs about Clock: parts of its definitions.
use Rattle.std.specs.Option.{option_map_or}
use Rattle.std.specs.Prelude.{ℕ, Option}
use Rattle.org_drawer.specs.Clock.{common_minutes}

-- the minutes that a clock with this start and end has in a stretch; a running clock has none
abbrev pub minutes_to : ℕ → Option ℕ → ℕ → ℕ → ℕ
minutes_to from to first past = option_map_or (λ end. common_minutes from end first past) to 0
