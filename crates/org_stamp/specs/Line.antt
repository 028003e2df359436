-- The stamps of a line (Org manual 9.6, "Timestamps"; that they are the leftmost, longest ones is the profile's).
use Rattle.std.specs.Prelude.{◌≡◌, ℕ, zero, suc, ◌+◌, ◌-◌, ◌<◌, ◌≤◌, List, [], ◌∷◌, ◌++◌, length, take, drop, Some, None, ◌⊎◌}
use Rattle.std.specs.List.{AllByRecursion}
use Rattle.org_stamp.specs.declared.stamp.Found.{Found}
use Rattle.org_stamp.specs.declared.stamp.Stamp.{Stamp}
use Rattle.org_stamp.specs.Read.{stamp_of}
use Rattle.org_stamp.specs.Stamp.{IsStamp}

-- the stamps of the bytes from a place of the line on; so many bytes at the front are still of the last stamp
unfoldable pub stamps_from : List ℕ → ℕ → ℕ → List Found
stamps_from [] at _ = []
stamps_from (b ∷ bs) at zero = elim (stamp_of (b ∷ bs))
    [ None ↦ stamps_from bs (at + 1) 0 | Some found ↦ record { at = at; len = found.1; stamp = found.0 } ∷ stamps_from bs (at + 1) (found.1 - 1) ]
stamps_from (b ∷ bs) at (suc inside) = stamps_from bs (at + 1) inside

-- the stamps of a line, from the left
abbrev pub stamps_of : List ℕ → List Found
stamps_of line = stamps_from line 0 0

-- the stamp is the longest at its place
pub record IsLongestAt (line : List ℕ) (f : Found) : Type 0 where
  pub within : f.at + f.len ≤ length line
  pub some : 0 < f.len
  pub is : IsStamp (take f.len (drop f.at line)) f.stamp
  pub longest : (bytes rest : List ℕ) (s : Stamp) → drop f.at line ≡ bytes ++ rest → IsStamp bytes s → length bytes ≤ f.len

-- each begins at or after the end of the one before
abbrev pub AreApart : ℕ → List Found → Type 0
AreApart from [] = Unit {0}
AreApart from (f ∷ fs) = (from ≤ f.at) × AreApart (f.at + f.len) fs

-- one of them holds the place
abbrev pub IsHeld : ℕ → List Found → Type 0
IsHeld p [] = ⊥
IsHeld p (f ∷ fs) = ((f.at ≤ p) × (p < f.at + f.len)) ⊎ IsHeld p fs

-- the stamps of a line: the longest at their places, apart and in order, and each place where a stamp begins lies in one
pub record AreStampsOf (line : List ℕ) (fs : List Found) : Type 0 where
  pub each : AllByRecursion (IsLongestAt line) fs
  pub apart : AreApart 0 fs
  pub held : (p : ℕ) (bytes rest : List ℕ) (s : Stamp) → drop p line ≡ bytes ++ rest → IsStamp bytes s → IsHeld p fs
