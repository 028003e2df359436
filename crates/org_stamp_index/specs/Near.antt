-- The headings that own a stamp near the days that are asked (profile).
use Rattle.std.specs.Prelude.{◌≡◌, ℕ, List, [], Some, Contains, length, slice_get}
use Rattle.std.specs.List.{sum_by}
use Rattle.org_base.specs.Counts.{Counts}
use Rattle.org_entry.specs.declared.entry.Entry.{Entry}
use Rattle.org_index.specs.Ticks.{examined}
use Rattle.org_settings.specs.Settings.{FileSettings}
use Rattle.org_entry.specs.Active.{active_stamps}
use Rattle.org_stamp_index.specs.NearQuery.{asked_of}
use Rattle.org_stamp_index.specs.Index.{IsIndexOf}
use Rattle.org_stamp_index.specs.declared.near_query.NearQuery.{NearQuery}
use Rattle.org_stamp_index.specs.declared.index.StampIndex.{StampIndex}

-- the place is among these
abbrev pub HasPlace : List ℕ → ℕ → Type 0
HasPlace places i = Contains places i

-- an entry whose place isn't among these has no stamp that is near
abbrev pub HoldNear : NearQuery → FileSettings → List Entry → List ℕ → Type 0
HoldNear a settings es places =
    (i : ℕ) (e : Entry) → slice_get es i ≡ Some e → (HasPlace places i → ⊥) → asked_of a (active_stamps settings e) ≡ []

-- how many stamps of an entry are near
abbrev pub near_of_entry : NearQuery → FileSettings → Entry → ℕ
near_of_entry a settings e = length (asked_of a (active_stamps settings e))

-- how many stamps of entries are near
abbrev pub near_in : NearQuery → FileSettings → List Entry → ℕ
near_in a settings es = sum_by (near_of_entry a settings) es

-- each of them was examined, and nothing else was counted
abbrev pub CountsNear : NearQuery → FileSettings → List Entry → Counts → Counts → Type 0
CountsNear a settings es old new = new ≡ examined (near_in a settings es) old

-- the same of the entries whose stamps indexes have
abbrev pub HoldNearOf : NearQuery → StampIndex → List ℕ → Type 0
HoldNearOf a x places = (settings : FileSettings) (es : List Entry) → IsIndexOf settings es x → HoldNear a settings es places

abbrev pub CountsNearOf : NearQuery → StampIndex → Counts → Counts → Type 0
CountsNearOf a x old new = (settings : FileSettings) (es : List Entry) → IsIndexOf settings es x → CountsNear a settings es old new

-- nothing is lost
abbrev pub KeepPlaces : List ℕ → List ℕ → Type 0
KeepPlaces old new = (i : ℕ) → HasPlace old i → HasPlace new i

-- the place of an id is there
abbrev pub AddsHeading : List ℕ → ℕ → List ℕ → Type 0
AddsHeading heading_of id new = (i : ℕ) → slice_get heading_of id ≡ Some i → HasPlace new i

-- the places of these ids are there
abbrev pub AddHeadings : List ℕ → List ℕ → List ℕ → Type 0
AddHeadings heading_of ids new = (id i : ℕ) → Contains ids id → slice_get heading_of id ≡ Some i → HasPlace new i
