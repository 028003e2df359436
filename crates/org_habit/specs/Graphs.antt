-- The days on which a habit was done.
use Rattle.std.specs.Prelude.{ℕ, List, Option, None, Some, slice_get}

-- the number of the day at a place; past the end 0
abbrev pub day_in : Option ℕ → ℕ
day_in None = 0
day_in (Some day) = day

abbrev pub day_at : List ℕ → ℕ → ℕ
day_at days place = day_in (slice_get days place)
