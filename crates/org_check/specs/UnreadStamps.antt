-- Places of a line that look like a stamp and are none (Org manual 9.6, "Timestamps"; what looks so: profile).
use Rattle.std.specs.List.{position_or_len}
use Rattle.std.specs.Prelude.{◌≡◌, ◌↔◌, ◌⊎◌, ℕ, ◌+◌, ◌≤◌, ◌<◌, Bool, true, ◌&&◌, if◌then◌else◌, List, [], ◌∷◌, ◌++◌, length, drop, Option, MatchOption, is_none}
use Rattle.org_stamp.specs.Read.{stamp_of}
use Rattle.org_stamp.specs.Stamp.{IsStamp, is_close}
use Rattle.org_stamp.specs.declared.stamp.Stamp.{Stamp}
use Rattle.org_check.specs.Looks.{looks_like_stamp}

-- what stands at the front looks like a stamp, and no stamp is read there
abbrev pub is_unread : List ℕ → Bool
is_unread bytes = looks_like_stamp bytes && is_none (stamp_of bytes)

-- the places of such texts, where the first of the bytes stands at a place
unfoldable pub unread_from : List ℕ → ℕ → List ℕ
unread_from [] at = []
unread_from (b ∷ bs) at = if is_unread (b ∷ bs) then at ∷ unread_from bs (at + 1) else unread_from bs (at + 1)

-- those of a line
abbrev pub unread_in : List ℕ → List ℕ
unread_in line = unread_from line 0

-- a place is the first from a place of the line on that looks like a stamp: what is unread from there on is unread from it on
pub record IsLookAt (line : List ℕ) (at p : ℕ) : Type 0 where
  pub from : at ≤ p
  pub within : p < length line
  pub rest : unread_from (drop at line) at ≡ unread_from (drop p line) p
  pub looks : looks_like_stamp (drop p line) ≡ true

-- the first of them from a place of the line on, or none, and then nothing is unread
abbrev pub IsNextLook : List ℕ → ℕ → Option ℕ → Type 0
IsNextLook line at found = MatchOption found (unread_from (drop at line) at ≡ []) (IsLookAt line at)

-- a place is one of these
abbrev pub IsAmong : ℕ → List ℕ → Type 0
IsAmong p [] = ⊥
IsAmong p (q ∷ qs) = (p ≡ q) ⊎ IsAmong p qs

-- no stamp begins at the front
abbrev pub BeginsNoStamp : List ℕ → Type 0
BeginsNoStamp bytes = (front rest : List ℕ) (s : Stamp) → bytes ≡ front ++ rest → IsStamp front s → ⊥

-- a bracket and a date-like text begin at the place of the line, and no stamp does
pub record LooksLikeStampAndIsNone (line : List ℕ) (p : ℕ) : Type 0 where
  pub looks : looks_like_stamp (drop p line) ≡ true
  pub none : BeginsNoStamp (drop p line)

-- just those places of a line are found
abbrev pub UnreadAreFound : Type 0
UnreadAreFound = (line : List ℕ) (p : ℕ) → IsAmong p (unread_in line) ↔ LooksLikeStampAndIsNone line p

-- a place is that of the first closing bracket of a line from another place on, or the line's length
abbrev pub IsNextClose : List ℕ → ℕ → ℕ → Type 0
IsNextClose line at close = close ≡ at + position_or_len is_close (drop at line)
