-- What the readers find at the front of bytes: a stamp and its length (Org manual 9.6, "Timestamps"). `specs/Stamp` has
-- the grammar itself.
-- Characters by their codes: 45 -, 60 <, 91 [.
use Rattle.std.specs.Prelude.{ℕ, ◌+◌, Bool, true, false, ◌&&◌, ◌==◌, if◌then◌else◌, List, [], ◌∷◌, take, drop, get_or, Option, Some, None, position, ◌≡◌, ◌≤◌, ◌++◌, length, IsSomeAnd}
use Rattle.std.specs.Option.{option_map, option_and_then}
use Rattle.org_stamp.specs.declared.stamp.Stamp.{Stamp}
use Rattle.org_stamp.specs.Inner.{inner_of}
use Rattle.org_stamp.specs.Stamp.{close_of, is_close, with_last, IsSingle, IsStamp}

-- the stamp whose bytes after the opening bracket are these, with the first closing bracket at i
abbrev pub closed : Bool → List ℕ → Option ℕ → Option (Stamp × ℕ)
closed active bs at = option_and_then (λ i.
    if get_or bs i 0 == close_of active then option_map (λ s. (s, i + 2)) (inner_of active (take i bs)) else None) at

-- the stamp of one day at the front
unfoldable pub single_of : List ℕ → Option (Stamp × ℕ)
single_of [] = None
single_of (b ∷ bs) =
    if b == 60 then closed true bs (position is_close bs)
    else (if b == 91 then closed false bs (position is_close bs) else None)

-- two values are equal
abbrev pub same_bool : Bool → Bool → Bool
same_bool true b = b
same_bool false true = false
same_bool false false = true

-- a stamp of that length; or the range of it and a second one behind two dashes, if both have the same brackets
abbrev pub joined : Stamp → ℕ → Option (Stamp × ℕ) → Stamp × ℕ
joined s n None = (s, n)
joined s n (Some t) = if same_bool s.active t.0.active then (with_last s t.0, n + 2 + t.1) else (s, n)

-- the longest stamp at the front, by the first one of that length and what follows it
abbrev pub ranged : Stamp → ℕ → List ℕ → Stamp × ℕ
ranged s n (a ∷ b ∷ rest) = if (a == 45) && (b == 45) then joined s n (single_of rest) else (s, n)
ranged s n _ = (s, n)

-- the length of the same
abbrev pub joined_len : Bool → ℕ → Option (Stamp × ℕ) → ℕ
joined_len active n None = n
joined_len active n (Some t) = if same_bool active t.0.active then n + 2 + t.1 else n

-- the same, with what follows the first stamp
abbrev pub ranged_len : Bool → ℕ → List ℕ → ℕ
ranged_len active n (a ∷ b ∷ rest) = if (a == 45) && (b == 45) then joined_len active n (single_of rest) else n
ranged_len active n _ = n

-- the longest stamp at the front
abbrev pub stamp_of : List ℕ → Option (Stamp × ℕ)
stamp_of bytes = option_map (λ found. ranged found.0 found.1 (drop found.1 bytes)) (single_of bytes)

-- a stamp is read again where this text of it stands, if the grammar gives it at all
abbrev pub IsReadAgain : Stamp → List ℕ → Type 0
IsReadAgain s text = (bytes : List ℕ) → IsStamp bytes s → stamp_of text ≡ Some (s, length text)

-- whatever stamp begins here is no longer than what was found, and is that where it is as long
abbrev pub NoneIsLonger : List ℕ → Option (Stamp × ℕ) → Type 0
NoneIsLonger text found = (bytes rest : List ℕ) (s : Stamp) → text ≡ bytes ++ rest → IsStamp bytes s →
    IsSomeAnd found (λ f. (length bytes ≤ f.1) × (length bytes ≡ f.1 → s ≡ f.0))

-- whatever stamp of one day begins here is what was found
abbrev pub IsOnlySingle : List ℕ → Option (Stamp × ℕ) → Type 0
IsOnlySingle text found = (bytes rest : List ℕ) (s : Stamp) → text ≡ bytes ++ rest → IsSingle bytes s → found ≡ Some (s, length bytes)
