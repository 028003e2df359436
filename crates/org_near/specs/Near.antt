-- The stamps of headings that are near the days that are asked (profile).
use Rattle.std.specs.Option.{option_map_or}
use Rattle.std.specs.Prelude.{◌≡◌, ℕ, Bool, List, [], Option, None, Some, slice_get}
use Rattle.org_entry.specs.declared.entry.Entry.{Entry}
use Rattle.org_inherit.specs.Scope.{Scope}
use Rattle.org_agenda.specs.Near.{is_near, near_sources}
use Rattle.org_agenda.specs.Sources.{file_sources, heading_sources}
use Rattle.org_agenda.specs.declared.source.HeadingStamp.{HeadingStamp}
use Rattle.org_stamp_index.specs.Near.{HasPlace}
use Rattle.org_stamp_index.specs.declared.near_query.NearQuery.{NearQuery}

-- the stamp is near the days that are asked
abbrev pub is_asked : NearQuery → HeadingStamp → Bool
is_asked a s = is_near a.profile a.from a.to a.today s

-- of some stamps those that are near
abbrev pub asked_of : NearQuery → List HeadingStamp → List HeadingStamp
asked_of a sources = near_sources a.profile a.from a.to a.today sources

-- the stamps of an entry of a file, if it is there
abbrev pub sources_if : Scope → ℕ → ℕ → Option Entry → List HeadingStamp
sources_if scope file i None = []
sources_if scope file i (Some e) = option_map_or (heading_sources scope file i e) e.head []

-- of the entry at a place of a file those that are near
abbrev pub asked_in : NearQuery → Scope → ℕ → ℕ → List HeadingStamp
asked_in a scope file i = asked_of a (sources_if scope file i (slice_get scope.entries i))

-- those of a file
abbrev pub asked_of_file : NearQuery → Scope → ℕ → List HeadingStamp
asked_of_file a scope file = asked_of a (file_sources scope file)

-- a heading whose place isn't among these has no stamp that is near
abbrev pub HoldAskedIn : NearQuery → List ℕ → ℕ → Scope → Type 0
HoldAskedIn a places file scope = (i : ℕ) → (HasPlace places i → ⊥) → asked_in a scope file i ≡ []
