-- The grammar of stamps and ranges (Org manual 9.6, "Timestamps").
-- Characters by their codes: 45 -, 60 <, 62 >, 91 [, 93 ].
use Rattle.std.specs.Prelude.{◌≡◌, ℕ, Bool, false, ◌||◌, ◌==◌, List, [], ◌∷◌, ◌++◌, Some, All, ◌⊎◌, if◌then◌else◌}
use Rattle.org_stamp.specs.declared.stamp.Stamp.{Stamp}
use Rattle.org_stamp.specs.Inner.{inner_of}

-- < of an active stamp, [ of another
abbrev pub open_of : Bool → ℕ
open_of active = if active then 60 else 91

-- > of an active stamp, ] of another
abbrev pub close_of : Bool → ℕ
close_of active = if active then 62 else 93

-- a closing bracket
abbrev pub is_close : ℕ → Bool
is_close b = (b == 62) || (b == 93)

-- the bytes are a stamp of one day: brackets round a date and the rest, which closes nothing
pub record IsSingle (bytes : List ℕ) (s : Stamp) : Type 0 where
  pub inner : List ℕ
  pub bytes_is : bytes ≡ open_of s.active ∷ (inner ++ close_of s.active ∷ [])
  pub no_close : All (λ b. is_close b ≡ false) inner
  pub stamp_is : inner_of s.active inner ≡ Some s

-- of a range's second stamp the day and the start are kept
abbrev pub with_last : Stamp → Stamp → Stamp
with_last s t = record s { last = Some (t.day, t.time) }

-- the bytes are two stamps with the same brackets and two dashes between them
pub record IsRange (bytes : List ℕ) (s : Stamp) : Type 0 where
  pub front : List ℕ
  pub back : List ℕ
  pub first : Stamp
  pub second : Stamp
  pub bytes_is : bytes ≡ front ++ 45 ∷ 45 ∷ back
  pub first_is : IsSingle front first
  pub second_is : IsSingle back second
  pub same_brackets : second.active ≡ first.active
  pub stamp_is : s ≡ with_last first second

-- the bytes are a stamp
abbrev pub IsStamp : List ℕ → Stamp → Type 0
IsStamp bytes s = IsSingle bytes s ⊎ IsRange bytes s
