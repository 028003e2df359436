-- How far a text is read.
use Rattle.std.specs.Prelude.{◌≡◌, ℕ, ◌≤◌, nat_lt, if◌then◌else◌, List, length, take}
use Rattle.orgls_text.specs.Positions.{cursor_behind, start}
use Rattle.orgls_text.specs.declared.position.PositionEncoding.{PositionEncoding}
use Rattle.orgls_text.specs.declared.reached.Reached.{Reached}

-- the cursor is the one behind the bytes that are read
pub record IsReached (encoding : PositionEncoding) (text : List ℕ) (reached : Reached) : Type 0 where
  pub within : reached.at ≤ length text
  pub behind : reached.cursor ≡ cursor_behind encoding start (take reached.at text)

-- one that isn't past a place, or the front
abbrev pub before : Reached → ℕ → Reached
before reached end = if nat_lt end reached.at then record { at = 0; cursor = start } else reached
