-- What the indexes of a file's stamps hold (profile).
use Rattle.std.specs.Prelude.{◌≡◌, ◌<◌, ◌≤◌, ◌^◌, ℕ, ◌+◌, ◌-◌, Bool, true, map, min, nat_lt, not, if◌then◌else◌, List, [], ◌∷◌, ◌++◌, Some, Vec, length, replicate, slice_get, slice_set}
use Rattle.std.specs.List.{between, splice, sum_by}
use Rattle.org_base.specs.declared.profile.Profile.{Profile}
use Rattle.org_entry.specs.declared.entry.Entry.{Entry}
use Rattle.org_index.specs.Reaches.{reach_of}
use Rattle.org_index.specs.declared.reach.Reach.{Reach}
use Rattle.org_settings.specs.Settings.{FileSettings}
use Rattle.org_entry.specs.Active.{active_stamps}
use Rattle.org_stamp_index.specs.NearQuery.{is_reminding}
use Rattle.org_entry.specs.declared.active.EntryStamp.{EntryStamp}
use Rattle.org_stamp_index.specs.declared.index.StampIndex.{StampIndex}

-- a stamp that doesn't press
abbrev pub is_waiting : EntryStamp → Bool
is_waiting s = not (is_reminding s)

-- the stamps that are wanted, by ids that go up by one with each stamp from a first one on, each as what decides to which days
-- it may matter
abbrev pub ids_of : Profile → (EntryStamp → Bool) → ℕ → List EntryStamp → List (ℕ × Reach)
ids_of p wanted id [] = []
ids_of p wanted id (s ∷ ss) = if wanted s then (id, reach_of p s.stamp) ∷ ids_of p wanted (id + 1) ss else ids_of p wanted (id + 1) ss

-- what is kept of a stamp beside its id: whether it presses, and what decides to which days it may matter
abbrev pub kept_of : Profile → EntryStamp → Bool × Reach
kept_of p s = (is_reminding s, reach_of p s.stamp)

-- of the stamps of two entries, read by these settings, the same is kept
abbrev pub AreKeptAlike : Profile → FileSettings → Entry → Entry → Type 0
AreKeptAlike p settings e d = map (kept_of p) (active_stamps settings e) ≡ map (kept_of p) (active_stamps settings d)

-- in an index it is where the answer is yes
abbrev pub AreKeptAlikeIf : StampIndex → Entry → Entry → Bool → Type 0
AreKeptAlikeIf x e d answer = answer ≡ true → AreKeptAlike x.profile x.settings.value e d

-- the same of entries, with the first id of each
abbrev pub all_ids : Profile → (EntryStamp → Bool) → FileSettings → List ℕ → List Entry → List (ℕ × Reach)
all_ids p wanted settings [] es = []
all_ids p wanted settings (first ∷ first_id_of) [] = []
all_ids p wanted settings (first ∷ first_id_of) (e ∷ es) = ids_of p wanted first (active_stamps settings e) ++ all_ids p wanted settings first_id_of es

-- two lists have the same items, in whatever order: any weight of them adds up to the same
abbrev pub HaveSame : List (ℕ × Reach) → List (ℕ × Reach) → Type 0
HaveSame xs ys = (weight : ℕ × Reach → ℕ) → sum_by weight xs ≡ sum_by weight ys

-- so many ids from a first one on were given, to a place
abbrev pub AreHeadingsOf : List ℕ → ℕ → ℕ → ℕ → Type 0
AreHeadingsOf heading_of first count place = (first + count ≤ length heading_of) × ((j : ℕ) → j < count → slice_get heading_of (first + j) ≡ Some place)

-- ids that were given to places are still theirs
pub record Stay (old new : List ℕ) : Type 0 where
  pub long : length old ≤ length new
  pub same : (id place : ℕ) → slice_get old id ≡ Some place → slice_get new id ≡ Some place

-- the ids of each of some entries, the first of which stands at a place, are its place's
abbrev pub AreHoused : FileSettings → List ℕ → ℕ → List ℕ → List Entry → Type 0
AreHoused settings heading_of place [] [] = Unit {0}
AreHoused settings heading_of place [] (e ∷ es) = ⊥
AreHoused settings heading_of place (first ∷ first_id_of) [] = ⊥
AreHoused settings heading_of place (first ∷ first_id_of) (e ∷ es) =
    AreHeadingsOf heading_of first (length (active_stamps settings e)) place × AreHoused settings heading_of (place + 1) first_id_of es

-- the indexes have the stamps of entries that a file with these settings says
pub record IsIndexOf (settings : FileSettings) (es : List Entry) (x : StampIndex) : Type 0 where
  pub housed : AreHoused settings x.heading_of.items 0 x.first_id_of.items es
  pub few : length x.heading_of.items ≤ 2 ^ 32
  pub reminding : HaveSame (all_ids x.profile is_reminding settings x.first_id_of.items es) x.reminding
  pub plain : HaveSame (all_ids x.profile is_waiting settings x.first_id_of.items es) x.plain

-- all ids are less than a number
abbrev pub AreBelow : ℕ → List (ℕ × Reach) → Type 0
AreBelow n [] = Unit {0}
AreBelow n (p ∷ ps) = (p.0 < n) × AreBelow n ps

-- the next id was never given
pub record AreFresh (x : StampIndex) : Type 0 where
  pub reminding : AreBelow (length x.heading_of.items) x.reminding
  pub plain : AreBelow (length x.heading_of.items) x.plain

-- stamps of the heading at a place were put in, under the next ids
pub record HasPut (place : ℕ) (stamps : List EntryStamp) (old new : StampIndex) : Type 0 where
  pub heading_of : new.heading_of.items ≡ old.heading_of.items ++ replicate (length stamps) place
  pub first_id_of : new.first_id_of.items ≡ old.first_id_of.items
  pub profile : new.profile ≡ old.profile
  pub settings : new.settings.value ≡ old.settings.value
  pub few : length old.heading_of.items ≤ 2 ^ 32 → length new.heading_of.items ≤ 2 ^ 32
  pub fresh : AreFresh new
  pub reminding : HaveSame (ids_of old.profile is_reminding (length old.heading_of.items) stamps ++ old.reminding) new.reminding
  pub plain : HaveSame (ids_of old.profile is_waiting (length old.heading_of.items) stamps ++ old.plain) new.plain

-- what a list has besides some items is what another one has
abbrev pub LeavesRest : List (ℕ × Reach) → List (ℕ × Reach) → List (ℕ × Reach) → Type 0
LeavesRest items old new = (rest : List (ℕ × Reach)) → HaveSame (items ++ rest) old → HaveSame rest new

-- stamps with the ids from a first one on were taken out
pub record HasTaken (first : ℕ) (stamps : List EntryStamp) (old new : StampIndex) : Type 0 where
  pub heading_of : new.heading_of.items ≡ old.heading_of.items
  pub first_id_of : new.first_id_of.items ≡ old.first_id_of.items
  pub profile : new.profile ≡ old.profile
  pub settings : new.settings.value ≡ old.settings.value
  pub reminding : LeavesRest (ids_of old.profile is_reminding first stamps) old.reminding new.reminding
  pub plain : LeavesRest (ids_of old.profile is_waiting first stamps) old.plain new.plain

-- the stamps of entries were put in, the first of which stands at a place; by entry the first of its ids, which were never given
pub record ArePut (by : FileSettings) (place : ℕ) (es : List Entry) (ids : List ℕ) (old new : StampIndex) : Type 0 where
  pub kept : Stay old.heading_of.items new.heading_of.items
  pub housed : AreHoused by new.heading_of.items place ids es
  pub first_id_of : new.first_id_of.items ≡ old.first_id_of.items
  pub profile : new.profile ≡ old.profile
  pub settings : new.settings.value ≡ old.settings.value
  pub few : length old.heading_of.items ≤ 2 ^ 32 → length new.heading_of.items ≤ 2 ^ 32
  pub fresh : AreFresh new
  pub reminding : HaveSame (all_ids old.profile is_reminding by ids es ++ old.reminding) new.reminding
  pub plain : HaveSame (all_ids old.profile is_waiting by ids es ++ old.plain) new.plain

-- the stamps of entries were taken out; by entry the first of its ids
pub record AreTaken (by : FileSettings) (es : List Entry) (ids : List ℕ) (old new : StampIndex) : Type 0 where
  pub heading_of : new.heading_of.items ≡ old.heading_of.items
  pub first_id_of : new.first_id_of.items ≡ old.first_id_of.items
  pub profile : new.profile ≡ old.profile
  pub settings : new.settings.value ≡ old.settings.value
  pub reminding : LeavesRest (all_ids old.profile is_reminding by ids es) old.reminding new.reminding
  pub plain : LeavesRest (all_ids old.profile is_waiting by ids es) old.plain new.plain

-- the stamps of the entries in a range were put in, and these are the first ids
abbrev pub HavePut : List Entry → ℕ → ℕ → List ℕ → StampIndex → StampIndex → Type 0
HavePut es start end ids old new = ArePut old.settings.value start (between start end es) ids old new

-- the same of the ids of a vector
abbrev pub PutsIds : {Y : Type 0} → List Entry → ℕ → ℕ → StampIndex → StampIndex → Vec ℕ Y → Type 0
PutsIds es start end old new ids = HavePut es start end ids.items old new

-- the index has the stamps of entries one of which is another
abbrev pub HasSet : List Entry → ℕ → Entry → StampIndex → StampIndex → Type 0
HasSet es place entry old new = IsIndexOf old.settings.value (slice_set es place entry) new

-- the stamps of the entries in a range were taken out
abbrev pub HaveTaken : List Entry → ℕ → ℕ → StampIndex → StampIndex → Type 0
HaveTaken es start end old new = AreTaken old.settings.value (between start end es) (between start end old.first_id_of.items) old new

-- the new number of a place, where what stands at an end and after it begins at another place
abbrev pub moved : ℕ → ℕ → ℕ → ℕ
moved end behind heading = if nat_lt heading end then heading else min (heading - end + behind) (2 ^ 64 - 1)

-- where in another list what stands after a place begins
abbrev pub behind_in : List Entry → ℕ → List Entry → ℕ
behind_in before end after = length after - (length before - end)

-- entries are others, with some in the place of those in a range
abbrev pub IsReplaced : List Entry → ℕ → ℕ → List Entry → Type 0
IsReplaced before start end after = after ≡ splice before start end (between start (behind_in before end after) after)

-- one index is a copy of another one
pub record IsCopy (x y : StampIndex) : Type 0 where
  pub profile : y.profile ≡ x.profile
  pub settings : y.settings.value ≡ x.settings.value
  pub reminding : y.reminding ≡ x.reminding
  pub plain : y.plain ≡ x.plain
  pub heading_of : y.heading_of.items ≡ x.heading_of.items
  pub first_id_of : y.first_id_of.items ≡ x.first_id_of.items
