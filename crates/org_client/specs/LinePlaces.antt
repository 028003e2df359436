-- The lines of bytes, by where lines begin (profile: lines and the bytes of a line count from 1).
use Rattle.std.specs.Prelude.{◌≡◌, ℕ, ◌+◌, ◌-◌, ◌<◌, ◌≤◌, ◌==◌, ◌^◌, if◌then◌else◌, nat_le, nat_lt, List, [], ◌∷◌, Option, None, Some, get_or, length, slice_get}
use Rattle.std.specs.Option.{option_map}
use Rattle.org_client.specs.declared.line_starts.LinePlace.{LinePlace}

-- places rise, from a place on
abbrev pub AreInOrder : ℕ → List ℕ → Type 0
AreInOrder at [] = Unit {0}
AreInOrder at (start ∷ starts) = (at ≤ start) × AreInOrder start starts

-- so many lines begin at a byte or before it
pub record AreUpTo (starts : List ℕ) (at count : ℕ) : Type 0 where
  pub within : count ≤ length starts
  pub earlier : (i d : ℕ) → i < count → get_or starts i d ≤ at
  pub later : (i d : ℕ) → count ≤ i → i < length starts → at < get_or starts i d

-- a byte stands in that line: the line begins so many bytes before it, and the next one, if there is one, behind it
pub record StandsAt (starts : List ℕ) (at : ℕ) (place : LinePlace) : Type 0 where
  pub counted : 1 ≤ place.line
  pub within : place.line ≤ length starts
  pub column : (d : ℕ) → get_or starts (place.line - 1) d + place.column ≡ at + 1
  pub past : (d : ℕ) → get_or starts (place.line - 1) d ≤ at
  pub before_next : (d : ℕ) → place.line < length starts → at < get_or starts place.line d

-- it stands before all lines
abbrev pub IsBeforeAll : List ℕ → ℕ → Type 0
IsBeforeAll starts at = (i d : ℕ) → i < length starts → at < get_or starts i d

-- how many lines begin at a byte or before it
abbrev pub lines_to : ℕ → List ℕ → ℕ
lines_to at [] = 0
lines_to at (start ∷ starts) = if nat_le start at then lines_to at starts + 1 else 0

-- a byte of so many a line before it
abbrev pub place_of_line : List ℕ → ℕ → ℕ → Option LinePlace
place_of_line starts at count =
    if count == 0 then None else Some (record { line = count; column = at - get_or starts (count - 1) at + 1 })

-- where a byte stands, as a value
abbrev pub line_place : List ℕ → ℕ → Option LinePlace
line_place starts at = place_of_line starts at (lines_to at starts)

-- the same in a file whose lines are known
abbrev pub line_place_of : Option (List ℕ) → ℕ → Option LinePlace
line_place_of None at = None
line_place_of (Some starts) at = line_place starts at

-- the same in the file at a place; no text has so many bytes that the second condition fails
abbrev pub line_place_in : List (List ℕ) → ℕ → ℕ → Option LinePlace
line_place_in starts file at = if nat_lt at (2 ^ 32) then line_place_of (slice_get starts file) at else None

-- the number of the line of a byte in a file whose lines are known
abbrev pub line_of : Option (List ℕ) → ℕ → Option ℕ
line_of starts at = option_map (λ (place : LinePlace). place.line) (line_place_of starts at)
