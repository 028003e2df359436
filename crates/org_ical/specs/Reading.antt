-- Content lines as a reader finds them (RFC 5545, 3.1, "Content Lines").
-- Characters by their codes: 9 tab, 10 LF, 13 CR, 32 space.
use Rattle.std.specs.Prelude.{ℕ, ◌+◌, ◌==◌, ◌&&◌, ◌||◌, Bool, true, false, nat_lt, if◌then◌else◌, List, [], ◌∷◌, ◌++◌}
use Rattle.org_ical.specs.Texts.{put}
use Rattle.org_ical.specs.declared.line.TheConstants.{MOST_OCTETS}

-- a stream cut at CR LF; the flag says that a CR came before and waits
abbrev pub cut_behind : Bool → List ℕ → List (List ℕ)
cut_behind waits [] = if waits then (13 ∷ []) ∷ [] else []
cut_behind true (octet ∷ octets) =
    if octet == 10 then [] ∷ cut_behind false octets
    else put 13 (if octet == 13 then cut_behind true octets else put octet (cut_behind false octets))
cut_behind false (octet ∷ octets) = if octet == 13 then cut_behind true octets else put octet (cut_behind false octets)

-- a line that begins with a space or a tab goes on with the line before it, without that character
abbrev pub is_blank : ℕ → Bool
is_blank octet = octet == 32 || octet == 9

abbrev pub join_next : List ℕ → List (List ℕ) → List (List ℕ)
join_next line [] = line ∷ []
join_next line ([] ∷ lines) = line ∷ [] ∷ lines
join_next line ((octet ∷ octets) ∷ lines) = if is_blank octet then (line ++ octets) ∷ lines else line ∷ (octet ∷ octets) ∷ lines

abbrev pub unfolded : List (List ℕ) → List (List ℕ)
unfolded [] = []
unfolded (line ∷ lines) = join_next line (unfolded lines)

-- the content lines of a stream
abbrev pub content_lines : List ℕ → List (List ℕ)
content_lines stream = unfolded (cut_behind false stream)

-- no line of a stream has more octets than it may, its end not counted; so many of the first one came before
abbrev pub are_short : ℕ → List ℕ → Bool
are_short used [] = true
are_short used (octet ∷ octets) =
    if octet == 10 then are_short 0 octets
    else (if octet == 13 then are_short used octets else nat_lt used MOST_OCTETS && are_short (used + 1) octets)
