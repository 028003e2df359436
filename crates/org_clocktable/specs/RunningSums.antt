-- Clocks by the places of their headings, and how the sum of their minutes rises from place to place.
use Rattle.std.specs.Prelude.{◌≡◌, ◌⊎◌, ℕ, ◌+◌, ◌<◌, ◌≤◌, nat_le, nat_lt, if◌then◌else◌, List, [], ◌∷◌, Option, None, Some, get_or, length}
use Rattle.org_drawer.specs.Clock.{minutes_in}
use Rattle.org_clocktable.specs.declared.running_sums.RunningSum.{RunningSum}
use Rattle.org_clocktable.specs.declared.running_sums.PlacedClock.{PlacedClock}

-- the places of clocks rise, from a place on
abbrev pub AreInOrder : ℕ → List PlacedClock → Type 0
AreInOrder at [] = Unit {0}
AreInOrder at (c ∷ cs) = (at ≤ c.place) × AreInOrder c.place cs

-- what clocks have in some days
abbrev pub minutes_of : ℕ × ℕ → List PlacedClock → ℕ
minutes_of days [] = 0
minutes_of days (c ∷ cs) = minutes_in c.clock days + minutes_of days cs

-- what those before a place have
abbrev pub minutes_before : ℕ × ℕ → List PlacedClock → ℕ → ℕ
minutes_before days [] place = 0
minutes_before days (c ∷ cs) place = (if nat_lt c.place place then minutes_in c.clock days else 0) + minutes_before days cs place

-- the sum that stands at the first mark from a place on; after the last one the total
abbrev pub sum_at : List RunningSum → ℕ → ℕ → ℕ
sum_at [] total place = total
sum_at (m ∷ ms) total place = if nat_le place m.place then m.before else sum_at ms total place

-- marks for some days, with the sum of all
pub record Sums : Type 0 where
  pub days : ℕ × ℕ
  pub running : List RunningSum
  pub total : ℕ

-- what stands before a place
abbrev pub before : Sums → ℕ → ℕ
before sums place = sum_at sums.running sums.total place

-- the sums are those of clocks in some days
abbrev pub AreMinutes : ℕ × ℕ → List PlacedClock → Sums → Type 0
AreMinutes days clocks sums = (sums.days ≡ days) × ((place : ℕ) → before sums place ≡ minutes_before days clocks place)

-- the places of marks rise, from a place on
abbrev pub AreSumsInOrder : ℕ → List RunningSum → Type 0
AreSumsInOrder at [] = Unit {0}
AreSumsInOrder at (m ∷ ms) = (at ≤ m.place) × AreSumsInOrder m.place ms

-- marks in order, at each of which the sum rises
pub record AreRising (running : List RunningSum) (total : ℕ) : Type 0 where
  pub order : AreSumsInOrder 0 running
  pub rises : (k : ℕ) (d : RunningSum) → k < length running → sum_at running total (get_or running k d).place < sum_at running total ((get_or running k d).place + 1)

-- so many marks stand before a place
pub record AreBefore (running : List RunningSum) (place count : ℕ) : Type 0 where
  pub within : count ≤ length running
  pub earlier : (i : ℕ) (d : RunningSum) → i < count → (get_or running i d).place < place
  pub later : (i : ℕ) (d : RunningSum) → count ≤ i → i < length running → place ≤ (get_or running i d).place

-- the later of two places, of which each may be missing
abbrev pub IsLater : Option ℕ → Option ℕ → Option ℕ → Type 0
IsLater a b None = (a ≡ None) × (b ≡ None)
IsLater a b (Some place) = ((a ≡ Some place) ⊎ (b ≡ Some place)) × ((p : ℕ) → a ≡ Some p → p ≤ place) × ((p : ℕ) → b ≡ Some p → p ≤ place)

-- the last place before another at which a sum rises; none where it doesn't
abbrev pub IsLastRise : (ℕ → ℕ) → ℕ → Option ℕ → Type 0
IsLastRise sum below None = sum below ≡ sum 0
IsLastRise sum below (Some place) = (place < below) × (sum place < sum (place + 1)) × (sum (place + 1) ≡ sum below)
