-- Positions that are known of some bytes of a text.
use Rattle.std.specs.Prelude.{◌≡◌, ℕ, ◌<◌, List, length, map, slice_index}
use Rattle.orgls_text.specs.Positions.{position_of}
use Rattle.orgls_text.specs.declared.known.KnownPositions.{KnownPositions}

-- the positions are those in front of the bytes
abbrev pub AreKnown : KnownPositions → Type 0
AreKnown known = known.positions.now ≡ map (position_of known.encoding known.text.now) known.offsets.now

-- a number stands at a place
abbrev pub IsPlaceOf : List ℕ → ℕ → ℕ → Type 0
IsPlaceOf numbers number place = (place < length numbers) × (slice_index numbers place ≡ number)
