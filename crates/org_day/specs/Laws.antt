-- What holds of all days.
use Rattle.std.specs.Prelude.{◌≡◌, ℕ, List, Option, Some, length, map, slice_get}
use Rattle.std.specs.List.{range_with_len}
use Rattle.org_day.specs.Placed.{line_of, placed_all}
use Rattle.org_day.specs.declared.placed.Placed.{Placed}
use Rattle.org_day.specs.declared.stand.Stand.{Stand}

-- the rows that are placed are those of the day, each once, by their places
abbrev pub EachRowHasItsPlace : Type 0
EachRowHasItsPlace = (stands : List Stand) → map (λ (placed : Placed). placed.place) (placed_all stands) ≡ range_with_len 0 (length stands)

-- a row stands in the line of a row of its heading, and that row is in its own line
pub record StandsIn (stands : List Stand) (stand : Stand) (line : ℕ) : Type 0 where
  pub first : Stand
  pub at : slice_get stands line ≡ Some first
  pub own : line_of stands first line ≡ line
  pub same : first.heading ≡ stand.heading

abbrev pub LinesStand : Type 0
LinesStand = (stands : List Stand) (place : ℕ) (stand : Stand) → slice_get stands place ≡ Some stand → StandsIn stands stand (line_of stands stand place)
