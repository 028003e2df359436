-- Sets of days: on which days which ids stand.
use Rattle.std.specs.Prelude.{◌≡◌, ◌↔◌, ◌⊎◌, ℕ, ◌+◌, ◌-◌, ◌*◌, ◌<◌, ◌≤◌, ◌==◌, nat_lt, nat_eq, Bool, false, ◌&&◌, ◌||◌, if◌then◌else◌, List, [], ◌∷◌, Contains, Option, Some, None, IsTrue}
use Rattle.std.specs.declared.cmp.Ordering.{Ordering}
use Rattle.std.specs.Ordering.{nat_cmp, ordering_then}
use Rattle.std.specs.BTreeMap.{BTreeMap, get}
use Rattle.std.specs.BTreeSet.{BTreeSet, contains}
use Rattle.org_index.specs.declared.delays.TheConstants.{WARNING_DAYS}
use Rattle.org_index.specs.declared.reach.Reach.{Reach}
use Rattle.org_index.specs.declared.keys.TheConstants.{DAY_LIMIT}

-- days first, ids of one day next
abbrev pub key_cmp : ℕ × ℕ → ℕ × ℕ → Ordering
key_cmp a b = ordering_then (nat_cmp a.0 b.0) (nat_cmp a.1 b.1)

-- the set of days has the id on that day
abbrev pub Stands : BTreeSet (ℕ × ℕ) → ℕ → ℕ → Type 0
Stands day_set day id = IsTrue (contains key_cmp day_set (day, id))

-- the id is among these
abbrev pub Has : List ℕ → ℕ → Type 0
Has ids id = Contains ids id

-- the new list has the old one's ids and those that the set of days has on the days
abbrev pub IsGathered : List ℕ → BTreeSet (ℕ × ℕ) → ℕ → ℕ → List ℕ → Type 0
IsGathered old day_set from to new =
    (id : ℕ) → Has new id ↔ (Has old id ⊎ ((day : ℕ) × (from ≤ day) × (day ≤ to) × Stands day_set day id))

-- the id stands in the list of keys
abbrev pub stands_in : ℕ → List (ℕ × ℕ) → Bool
stands_in id [] = false
stands_in id (k ∷ ks) = nat_eq id k.1 || stands_in id ks

-- nothing is lost
abbrev pub Keeps : List ℕ → List ℕ → Type 0
Keeps old new = (id : ℕ) → Has old id → Has new id

-- and what the set of days has on the days is there
abbrev pub Adds : BTreeSet (ℕ × ℕ) → ℕ → ℕ → List ℕ → Type 0
Adds day_set from to new = (id day : ℕ) → from ≤ day → day ≤ to → Stands day_set day id → Has new id

-- the class of a range's length
abbrev pub class_of : ℕ → ℕ
class_of n = if nat_lt n 8 then 0 else (if nat_lt n 64 then 1 else (if nat_lt n 512 then 2 else (if nat_lt n 4_096 then 3 else (if nat_lt n 32_768 then 4 else (if nat_lt n 262_144 then 5 else 6)))))

-- the lengths of a class are below this
abbrev pub bound_of : ℕ → ℕ
bound_of j = if j == 0 then 8 else (if j == 1 then 64 else (if j == 2 then 512 else (if j == 3 then 4_096 else (if j == 4 then 32_768 else (if j == 5 then 262_144 else DAY_LIMIT)))))

-- a day in a class of ranges
abbrev pub class_day : ℕ → ℕ → ℕ
class_day j day = DAY_LIMIT * j + day

-- what classes of ranges have from so many days before a day on, as many as their lengths allow, up to it
abbrev pub AddsRanges : BTreeSet (ℕ × ℕ) → ℕ → List ℕ → Type 0
AddsRanges day_set day new = (j : ℕ) → j < 7 → Adds day_set (class_day j (day - bound_of j)) (class_day j day) new

-- where what is kept stands in each set of days: all under their days; those that repeat; those that are delayed; those that warn
-- by a time of their own; and ranges, by their lengths
abbrev pub own_day : Reach → Option ℕ
own_day e = Some e.first

abbrev pub repeated_day : Reach → Option ℕ
repeated_day e = if e.repeats then Some e.first else None

abbrev pub delayed_day : Reach → Option ℕ
delayed_day e = if e.delayed == e.first then None else Some e.delayed

abbrev pub warned_day : Reach → Option ℕ
warned_day e = if e.warned == e.first - WARNING_DAYS then None else Some e.warned

abbrev pub range_day : Reach → Option ℕ
range_day e = if nat_lt e.first e.last then Some (class_day (class_of (e.last - e.first)) e.first) else None

abbrev pub is_day : Option ℕ → ℕ → Bool
is_day None d = false
is_day (Some e) d = nat_eq e d

abbrev pub stands_by : (Reach → Option ℕ) → Option Reach → ℕ → Bool
stands_by key None d = false
stands_by key (Some e) d = is_day (key e) d

-- the set of days has each id on its day, and nothing else
abbrev pub Fits : (Reach → Option ℕ) → BTreeMap ℕ Reach → BTreeSet (ℕ × ℕ) → Type 0
Fits key reaches day_set = (d i : ℕ) → contains key_cmp day_set (d, i) ≡ stands_by key (get nat_cmp reaches i) d

-- the set of days gets the id on the day, or loses it there; else it stays
abbrev pub IsSet : Bool → Option ℕ → ℕ → BTreeSet (ℕ × ℕ) → BTreeSet (ℕ × ℕ) → Type 0
IsSet value day id old new =
    (d i : ℕ) → contains key_cmp new (d, i) ≡ (if nat_eq i id && is_day day d then value else contains key_cmp old (d, i))
