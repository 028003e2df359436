-- Content lines as they are written (RFC 5545, 3.1, "Content Lines"): each is folded and ends by CR LF.
-- Characters by their codes: 10 LF, 13 CR, 32 space.
use Rattle.std.specs.Prelude.{ℕ, ◌+◌, Bool, nat_lt, if◌then◌else◌, List, [], ◌∷◌, ◌++◌}
use Rattle.std.specs.List.{flat_map}
use Rattle.org_ical.specs.declared.line.TheConstants.{MOST_OCTETS}

-- how many octets the character takes that an octet of UTF-8 begins; one that begins none counts itself
abbrev pub char_octets : ℕ → ℕ
char_octets octet = if nat_lt octet 192 then 1 else (if nat_lt octet 224 then 2 else (if nat_lt octet 240 then 3 else 4))

-- the character that an octet begins goes past the end of a line that has so many octets
abbrev pub is_past : ℕ → ℕ → Bool
is_past used octet = nat_lt MOST_OCTETS (used + char_octets octet)

-- an octet of a line that has so many: with a fold before it, where its character would go past the end
abbrev pub octet_text : ℕ → ℕ → List ℕ
octet_text used octet = if is_past used octet then 13 ∷ 10 ∷ 32 ∷ octet ∷ [] else octet ∷ []

-- how many octets the line has with it; behind a fold the space is one
abbrev pub used_with : ℕ → ℕ → ℕ
used_with used octet = if is_past used octet then 2 else used + 1

abbrev pub folded_behind : ℕ → List ℕ → List ℕ
folded_behind used [] = []
folded_behind used (octet ∷ octets) = octet_text used octet ++ folded_behind (used_with used octet) octets

-- a content line, folded, with its end
abbrev pub written_line : List ℕ → List ℕ
written_line line = folded_behind 0 line ++ 13 ∷ 10 ∷ []

abbrev pub written : List (List ℕ) → List ℕ
written lines = flat_map written_line lines
