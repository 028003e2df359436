-- The sets of days of an index, beside one another.
use Rattle.std.specs.Prelude.{◌≡◌, ℕ, nat_eq, Bool, false, ◌&&◌, Option, []}
use Rattle.std.specs.BTreeMap.{BTreeMap}
use Rattle.std.specs.BTreeSet.{BTreeSet, contains}
use Rattle.org_index.specs.DaySet.{Fits, IsSet, delayed_day, is_day, own_day, range_day, repeated_day, key_cmp, warned_day}
use Rattle.org_index.specs.declared.reach.Reach.{Reach}
use Rattle.org_index.specs.declared.day_sets.DaySets.{DaySets}

-- each set of days has each id where what is kept of its stamp says, and nothing else
pub record AreLanesOf (reaches : BTreeMap ℕ Reach) (day_sets : DaySets) : Type 0 where
  pub days : Fits own_day reaches day_sets.days
  pub repeating : Fits repeated_day reaches day_sets.repeating
  pub delayed : Fits delayed_day reaches day_sets.delayed
  pub warned : Fits warned_day reaches day_sets.warned
  pub ranges : Fits range_day reaches day_sets.ranges

-- the id is put where what is kept of a stamp says, or taken from there; else the sets of days stay
pub record AreSet (value : Bool) (e : Reach) (id : ℕ) (old new : DaySets) : Type 0 where
  pub days : IsSet value (own_day e) id old.days new.days
  pub repeating : IsSet value (repeated_day e) id old.repeating new.repeating
  pub delayed : IsSet value (delayed_day e) id old.delayed new.delayed
  pub warned : IsSet value (warned_day e) id old.warned new.warned
  pub ranges : IsSet value (range_day e) id old.ranges new.ranges

-- but for the id on that day the set of days stays
abbrev pub StaysBut : Option ℕ → ℕ → BTreeSet (ℕ × ℕ) → BTreeSet (ℕ × ℕ) → Type 0
StaysBut day id old new = (d i : ℕ) → (nat_eq i id && is_day day d) ≡ false → contains key_cmp new (d, i) ≡ contains key_cmp old (d, i)

-- but for the id where what is kept of a stamp says the sets of days stay
pub record MayStand (e : Reach) (id : ℕ) (old new : DaySets) : Type 0 where
  pub days : StaysBut (own_day e) id old.days new.days
  pub repeating : StaysBut (repeated_day e) id old.repeating new.repeating
  pub delayed : StaysBut (delayed_day e) id old.delayed new.delayed
  pub warned : StaysBut (warned_day e) id old.warned new.warned
  pub ranges : StaysBut (range_day e) id old.ranges new.ranges

-- they have the same ids on the same days
pub record AreSame (day_sets other : DaySets) : Type 0 where
  pub days : other.days.keys ≡ day_sets.days.keys
  pub repeating : other.repeating.keys ≡ day_sets.repeating.keys
  pub delayed : other.delayed.keys ≡ day_sets.delayed.keys
  pub warned : other.warned.keys ≡ day_sets.warned.keys
  pub ranges : other.ranges.keys ≡ day_sets.ranges.keys

-- no set of days has an id
pub record AreEmpty (day_sets : DaySets) : Type 0 where
  pub days : day_sets.days.keys ≡ []
  pub repeating : day_sets.repeating.keys ≡ []
  pub delayed : day_sets.delayed.keys ≡ []
  pub warned : day_sets.warned.keys ≡ []
  pub ranges : day_sets.ranges.keys ≡ []
