-- Worked examples: what the definitions say of inputs at which a wrong rule says something else.
use Rattle.std.specs.Prelude.{◌≡◌, ℕ, true, false, Option, Some, None, option_map}
use Rattle.org_base.specs.declared.profile.Profile.TheVariants.{One}
use Rattle.org_cal.specs.declared.unit.Unit.TheVariants.{Week}
use Rattle.org_stamp.specs.declared.mark.RepeaterKind.{RepeaterKind}
use Rattle.org_stamp.specs.declared.mark.RepeaterKind.TheVariants.{Plain, Today}
use Rattle.org_stamp.specs.declared.stamp.Stamp.{Stamp}
use Rattle.org_repeat.specs.Decided.{occurs}
use Rattle.org_repeat.specs.Shift.{shift_of}

-- an active stamp of day 100 that repeats each week, perhaps a range with a last day
abbrev pub weekly : RepeaterKind → Option (ℕ × Option ℕ) → Stamp
weekly kind last = record {
  active = true;
  day = 100;
  time = None;
  end_time = None;
  repeater = Some (record { kind = kind; n = 1; unit = Week; limit = None });
  delay = None;
  last = last;
}

-- a restarted task counts from today, and a range doesn't repeat in the first profile (Org manual 9.6, "Repeated tasks";
-- profile)
pub record ExamplesHold : Type 0 where
  pub from_today : option_map (λ s. s.day) (shift_of (weekly Today None) (record { day = 110; minute = 0 })) ≡ Some 117
  pub range_stands_once : occurs One (weekly Plain (Some (102, None))) 107 ≡ false
