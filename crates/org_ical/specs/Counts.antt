-- How often keys came.
use Rattle.std.specs.Prelude.{◌≡◌, ℕ, ◌+◌, if◌then◌else◌, List, bytes_eq}
use Rattle.std.specs.Map.{lookup}
use Rattle.std.specs.Option.{unwrap_or}
use Rattle.org_ical.specs.Uids.{times_in}

-- a number for each of some keys
abbrev pub Counts : Type 0
Counts = List (List ℕ × ℕ)

-- the number of a key, 0 where it has none
abbrev pub count_of : Counts → List ℕ → ℕ
count_of counts key = unwrap_or (lookup (bytes_eq key) counts) 0

-- each key's number is how often it is among some
abbrev pub AreCounted : Counts → List (List ℕ) → Type 0
AreCounted counts keys = (key : List ℕ) → count_of counts key ≡ times_in key keys

-- a key came once more, and all others as often as before
abbrev pub IsCountedToo : Counts → Counts → List ℕ → Type 0
IsCountedToo old new key = (other : List ℕ) → count_of new other ≡ if bytes_eq other key then count_of old key + 1 else count_of old other
