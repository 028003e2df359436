-- Words of the proofs about Decided: parts of its definitions.
use Rattle.std.specs.Option.{option_map_or, option_and_then}
use Rattle.std.specs.Prelude.{ℕ, ◌+◌, ◌*◌, Bool, ◌&&◌, ◌==◌, nat_le, Option, is_some}
use Rattle.org_base.specs.declared.profile.Profile.{Profile}
use Rattle.org_stamp.specs.declared.mark.Repeater.{Repeater}
use Rattle.org_stamp.specs.declared.stamp.Stamp.{Stamp}
use Rattle.org_repeat.specs.Decided.{any_below, hits, begins_on, start_in}

-- more intervals than there are hours in the years 1 to 9999
abbrev pub most_intervals : ℕ
most_intervals = 87_649_441

-- without a repeater the base alone; else some number of intervals leads from the base to the day
abbrev pub occurs_by : ℕ → ℕ → Option Repeater → ℕ → Bool
occurs_by base start repeater day = option_map_or (λ r. any_below (λ k. hits base start r.unit (k * r.n) day) most_intervals) repeater (day == base)

-- a copy of a range begins on one day, and is long enough to hold another that isn't earlier; it is as long as the
-- written range
abbrev pub holds_copy : Stamp → ℕ → ℕ → ℕ → Bool
holds_copy s last day begins = begins_on s begins && nat_le (day + s.day) (begins + last)

-- where the copy of a range begins that a day shows; a stamp that is no range has no copies
abbrev pub start_of : Profile → Stamp → Option (ℕ × Option ℕ) → ℕ → Option ℕ
start_of p s range day = option_and_then (λ last. start_in p s last.0 day) range

-- a range occurs where a copy of it is shown; another stamp where it begins
abbrev pub occurs_in : Profile → Stamp → Option (ℕ × Option ℕ) → ℕ → Bool
occurs_in p s range day = option_map_or (λ last. is_some (start_in p s last.0 day)) range (begins_on s day)
