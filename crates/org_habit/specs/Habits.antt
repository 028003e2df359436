-- What a stamp says of a habit (Org manual 9.6, "Tracking your habits"; that a month has 30.4 days and a year 365.25: profile).
use Rattle.std.specs.Prelude.{ℕ, ◌*◌, ◌/◌, ◌==◌, nat_le, if◌then◌else◌, Option, None, Some, Result, Ok, Err}
use Rattle.org_cal.specs.declared.unit.Unit.{Unit}
use Rattle.org_cal.specs.declared.unit.Unit.TheVariants.{Hour, Day, Week, Month, Year}
use Rattle.org_stamp.specs.declared.mark.Repeater.{Repeater}
use Rattle.org_stamp.specs.declared.mark.RepeaterKind.{RepeaterKind}
use Rattle.org_habit.specs.declared.habit.Habit.{Habit}
use Rattle.org_habit.specs.declared.habit.NoHabit.{NoHabit}
use Rattle.org_habit.specs.declared.habit.NoHabit.TheVariants.{NoRepeater, Hours, Short, Limit}

-- so many units in whole days; hours are none
abbrev pub days_of : ℕ → Unit → Option ℕ
days_of n Hour = None
days_of n Day = Some n
days_of n Week = Some (n * 7)
days_of n Month = Some (n * 304 / 10)
days_of n Year = Some (n * 36525 / 100)

-- what stands after the slash in whole days, if anything does
abbrev pub in_days : Option ℕ → Option (Option ℕ)
in_days None = None
in_days (Some days) = Some (Some days)

abbrev pub limit_of : Option (ℕ × Unit) → Option (Option ℕ)
limit_of None = Some None
limit_of (Some limit) = in_days (days_of limit.0 limit.1)

-- a habit is done again after a day or more, and has more time at the latest than that, if it is said
abbrev pub with_days : ℕ → ℕ → Option ℕ → RepeaterKind → Result Habit NoHabit
with_days scheduled interval None kind =
    if interval == 0 then Err Short else Ok (record { scheduled = scheduled; interval = interval; limit = None; kind = kind })
with_days scheduled interval (Some limit) kind =
    if interval == 0 then Err Short
    else (if nat_le limit interval then Err Limit else Ok (record { scheduled = scheduled; interval = interval; limit = Some limit; kind = kind }))

abbrev pub with_amounts : ℕ → Option ℕ → Option (Option ℕ) → RepeaterKind → Result Habit NoHabit
with_amounts scheduled (Some interval) (Some limit) kind = with_days scheduled interval limit kind
with_amounts scheduled _ _ kind = Err Hours

-- what a stamp of a day with a repeater says
abbrev pub habit_of : ℕ → Option Repeater → Result Habit NoHabit
habit_of scheduled None = Err NoRepeater
habit_of scheduled (Some repeater) = with_amounts scheduled (days_of repeater.n repeater.unit) (limit_of repeater.limit) repeater.kind
