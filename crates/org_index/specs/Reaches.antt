-- What of a stamp decides to which days it may matter (Org manual 9.6, "Timestamps"; "Deadlines and Scheduling").
use Rattle.std.specs.Prelude.{ℕ, ◌+◌, ◌-◌, nat_lt, Bool, ◌&&◌, if◌then◌else◌, Option, Some, None, is_some, is_none}
use Rattle.org_base.specs.declared.profile.Profile.{Profile}
use Rattle.org_base.specs.declared.profile.Profile.TheVariants.{One, Two}
use Rattle.org_stamp.specs.declared.stamp.Stamp.{Stamp}
use Rattle.org_index.specs.Delays.{delay_or}
use Rattle.org_index.specs.declared.delays.TheConstants.{WARNING_DAYS}
use Rattle.org_index.specs.declared.reach.Reach.{Reach}

-- it repeats: in the first profile a range doesn't, in the second it does
abbrev pub repeats : Profile → Stamp → Bool
repeats One s = is_some s.repeater && is_none s.last
repeats Two s = is_some s.repeater

-- the last day of a range, if it lies after the first; else the first
abbrev pub last_day : ℕ → Option (ℕ × Option ℕ) → ℕ
last_day day None = day
last_day day (Some last) = if nat_lt day last.0 then last.0 else day

-- what an index keeps of a stamp: its day, or of a range the first and the last that are written; its day plus its delay;
-- its day less its warning time, its own or 14 days; whether it repeats
abbrev pub reach_of : Profile → Stamp → Reach
reach_of p s = record {
  first = s.day;
  last = last_day s.day s.last;
  delayed = s.day + delay_or 0 s.delay;
  warned = s.day - delay_or WARNING_DAYS s.delay;
  repeats = repeats p s;
}
