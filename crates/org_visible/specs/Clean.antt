-- Texts without characters that aren't shown as they are.
use Rattle.std.specs.Prelude.{◌≡◌, ℕ, Bool, true, false, not, ◌&&◌, List, [], ◌∷◌}
use Rattle.org_visible.specs.Unseen.{ends, is_control, next}
use Rattle.org_visible.specs.declared.front.Front.{Front}
use Rattle.org_visible.specs.declared.front.Front.TheVariants.{Empty, C2, E2, E280, E281, F3, F3A0, F3A080, F3A081}

-- nothing has come of such a character
abbrev pub is_empty : Front → Bool
is_empty Empty = true
is_empty C2 = false
is_empty E2 = false
is_empty E280 = false
is_empty E281 = false
is_empty F3 = false
is_empty F3A0 = false
is_empty F3A080 = false
is_empty F3A081 = false

-- behind what has come of such a character none ends, and none is cut at the end
abbrev pub is_clean_behind : Front → List ℕ → Bool
is_clean_behind front [] = is_empty front
is_clean_behind front (byte ∷ bytes) = not (is_control byte) && (not (ends front byte) && is_clean_behind (next front byte) bytes)

-- a text has no such character, nor is one cut at its end
abbrev pub IsClean : List ℕ → Type 0
IsClean bytes = is_clean_behind Empty bytes ≡ true
