-- Whether stamps stand somewhere, without what they say.
use Rattle.std.specs.Prelude.{◌≡◌, ℕ, Bool, true, false, not, List, is_some}
use Rattle.std.specs.Option.{option_map_or}
use Rattle.org_stamp.specs.Inner.{after_name, inner_of}
use Rattle.org_stamp.specs.Read.{single_of}
use Rattle.org_stamp.specs.Word.{words}

-- the bytes stand between the brackets of a stamp, active or not
abbrev pub IsAnyInner : List ℕ → Type 0
IsAnyInner bytes = (active : Bool) → is_some (inner_of active bytes) ≡ true

-- the bytes may follow the name in a stamp
abbrev pub MayFollow : List ℕ → Type 0
MayFollow bytes = (active : Bool) (day : ℕ) → is_some (after_name active day (words bytes)) ≡ true

-- a stamp of one day begins the bytes
abbrev pub begins_single : List ℕ → Bool
begins_single bytes = is_some (single_of bytes)

-- so does an inactive one
abbrev pub begins_inactive : List ℕ → Bool
begins_inactive bytes = option_map_or (λ found. not found.0.active) (single_of bytes) false
