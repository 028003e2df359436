-- An outline kept beside sections while they change (profile).
use Rattle.std.specs.Prelude.{◌≡◌, ◌<◌, ◌≤◌, ◌⊎◌, ℕ, ◌+◌, ◌-◌, List, [], ◌∷◌, length, map, take, drop, min, Option, None, Some, IfSome}
use Rattle.std.specs.List.{AllZip, splice}
use Rattle.org_entry.specs.declared.entry.Entry.{Entry}
use Rattle.org_store.specs.Sections.{SaysSo, SectionView, fresh_section}
use Rattle.org_store.specs.declared.cached_outline.StaleRange.{StaleRange}
use Rattle.org_store.specs.declared.cached_outline.CachedOutline.{CachedOutline}

-- what so many of the first sections and so many of the last ones say is what as many of the first entries and of the last ones are
pub record StandsAround (valid_front valid_back : ℕ) (list : List SectionView) (entries : List Entry) : Type 0 where
  pub sections_fit : valid_front + valid_back ≤ length list
  pub entries_fit : valid_front + valid_back ≤ length entries
  pub first : AllZip SaysSo (take valid_front list) (take valid_front entries)
  pub last : AllZip SaysSo (drop (length list - valid_back) list) (drop (length entries - valid_back) entries)

-- entries are what sections say, but for a stale range where there is one
abbrev pub Stands : Option StaleRange → List SectionView → List Entry → Type 0
Stands None list entries = AllZip SaysSo list entries
Stands (Some stale) list entries = StandsAround stale.valid_front stale.valid_back list entries

-- what is kept of an outline, if anything is, stands beside the sections
abbrev pub Shows : Option CachedOutline → List SectionView → Type 0
Shows cached list = IfSome cached (λ s. Stands s.stale list s.outline)

-- a stale range fits into so many sections and so many entries; without one they are as many
abbrev pub Fits : Option StaleRange → ℕ → ℕ → Type 0
Fits None sections entries = entries ≡ sections
Fits (Some stale) sections entries = (stale.valid_front + stale.valid_back ≤ sections) × (stale.valid_front + stale.valid_back ≤ entries)

-- a stale range that leaves at most so many of the first and of the last
abbrev pub widened : ℕ → ℕ → Option StaleRange → StaleRange
widened valid_front valid_back None = record { valid_front = valid_front; valid_back = valid_back }
widened valid_front valid_back (Some stale) = record { valid_front = min stale.valid_front valid_front; valid_back = min stale.valid_back valid_back }

-- an outline whose stale range leaves at most so many of the first and of the last, where there is an outline
abbrev pub IsWithStaleRange : ℕ → ℕ → Option CachedOutline → Option CachedOutline → Type 0
IsWithStaleRange valid_front valid_back None new = new ≡ None
IsWithStaleRange valid_front valid_back (Some s) new = new ≡ Some (record { outline = s.outline; stale = Some (widened valid_front valid_back s.stale) })

-- beside whatever so many sections the one stands, the other stands beside them with this section at a place
abbrev pub StandsWith : CachedOutline → SectionView → ℕ → ℕ → CachedOutline → Type 0
StandsWith old section place count new =
    (list : List SectionView) → length list ≡ count → Stands old.stale list old.outline → Stands new.stale (splice list place (place + 1) (section ∷ [])) new.outline

-- this is where the entry of the section at a place stands, of so many sections and so many entries
abbrev pub IsCachedPlace : Option StaleRange → ℕ → ℕ → ℕ → Option ℕ → Type 0
IsCachedPlace None place sections entries at = at ≡ Some place
IsCachedPlace (Some stale) place sections entries None = (stale.valid_front ≤ place) × (place + stale.valid_back < sections)
IsCachedPlace (Some stale) place sections entries (Some at) =
    ((place < stale.valid_front) × (at ≡ place)) ⊎ ((stale.valid_front ≤ place) × (sections ≤ place + stale.valid_back) × (at + sections ≡ entries + place))

-- sections are others, with some that are still to be read in the place of those from one to another
pub record Follows (was : List SectionView) (first end : ℕ) (now : List SectionView) : Type 0 where
  pub texts : List (List ℕ)
  pub order : first ≤ end
  pub within : end ≤ length was
  pub is : now ≡ splice was first end (map fresh_section texts)
