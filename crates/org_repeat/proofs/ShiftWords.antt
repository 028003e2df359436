-- Words of the proofs about Shift: parts of its definitions.
use Rattle.std.specs.Option.{option_map_or}
use Rattle.std.specs.Prelude.{ℕ, nat_lt, if◌then◌else◌, Option, Some, None, unwrap_or, option_map}
use Rattle.org_cal.specs.declared.moment.Moment.{Moment}
use Rattle.org_stamp.specs.declared.mark.Repeater.{Repeater}
use Rattle.org_stamp.specs.declared.stamp.Stamp.{Stamp}
use Rattle.org_repeat.specs.Shifted.{minutes_at}
use Rattle.org_repeat.specs.Shift.{next_of}

-- more steps than there are hours in the years 1 to 9999
abbrev pub most_steps : ℕ
most_steps = 90_000_000

-- the moment, if it is past the minute; else what comes later
abbrev pub past_or : ℕ → Option Moment → Option Moment → Option Moment
past_or now found later = elim found [ None ↦ later | Some m ↦ if nat_lt now (minutes_at m.day m.minute) then Some m else later ]

-- a stamp at another day and time: all else stays, and a missing time stays missing
abbrev pub stamp_at : Stamp → Moment → Stamp
stamp_at s m = record s { day = m.day; time = option_map (λ old. m.minute) s.time }

-- where a repeater leads a stamp at a moment; without one it stays
abbrev pub shift_for : Stamp → Option Repeater → Moment → Option Stamp
shift_for s repeater now = option_map_or (λ r. option_map (stamp_at s) (next_of r.kind s.day (unwrap_or s.time 0) r.n r.unit now)) repeater (Some s)
