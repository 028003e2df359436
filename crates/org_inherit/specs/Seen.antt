-- Tags that were seen.
use Rattle.std.specs.Prelude.{◌≡◌, ℕ, Bool, Option, None, Some, List, Vec, bytes_eq, ◌||◌}
use Rattle.std.specs.Global.{Global}
use Rattle.std.specs.List.{list_any}

-- the tag is among these
abbrev pub is_seen : List (Vec ℕ Global) → List ℕ → Bool
is_seen keys tag = list_any (λ seen. bytes_eq tag seen.items) keys

-- the tags that were seen are those of the list, where they are kept
abbrev pub AreSeen : Option (List (Vec ℕ Global)) → List (List ℕ) → Type 0
AreSeen None tags = Unit {0}
AreSeen (Some keys) tags = (tag : List ℕ) → is_seen keys tag ≡ list_any (bytes_eq tag) tags

-- a tag is seen now, and of the others those that were
abbrev pub IsSeenToo : List (Vec ℕ Global) → List (Vec ℕ Global) → List ℕ → Type 0
IsSeenToo old new tag = (other : List ℕ) → is_seen new other ≡ (bytes_eq other tag || is_seen old other)
