-- Worked examples: what the definitions say of inputs at which a wrong rule says something else.
use Rattle.std.specs.Prelude.{◌≡◌, None, Some, true, false, Ok, Err}
use Rattle.org_cal.specs.declared.unit.Unit.TheVariants.{Hour, Day, Week, Month, Year}
use Rattle.org_stamp.specs.declared.mark.RepeaterKind.TheVariants.{Today}
use Rattle.org_habit.specs.Habits.{days_of, limit_of, with_days}
use Rattle.org_habit.specs.Urgencies.{urgency_of}
use Rattle.org_habit.specs.declared.habit.NoHabit.TheVariants.{Short, Limit}
use Rattle.org_habit.specs.declared.urgency.Urgency.TheVariants.{Clear, Ready, Alert, Overdue}

-- units in days; a limit that isn't more than the interval; a habit that is planned for day 10 and has day 12 at the latest
pub record ExamplesHold : Type 0 where
  pub months : days_of 2 Month ≡ Some 60
  pub years : days_of 2 Year ≡ Some 730
  pub hours : days_of 24 Hour ≡ None
  pub weeks : limit_of (Some (2, Week)) ≡ Some (Some 14)
  pub no_limit : limit_of None ≡ Some None
  pub limit_by_hours : limit_of (Some (48, Hour)) ≡ None
  pub equal_limit : with_days 10 2 (Some 2) Today ≡ Err Limit
  pub no_day : with_days 10 0 (Some 2) Today ≡ Err Short
  pub before : urgency_of 9 10 12 false ≡ Clear
  pub planned : urgency_of 10 10 12 false ≡ Ready
  pub last : urgency_of 12 10 12 false ≡ Alert
  pub last_done : urgency_of 12 10 12 true ≡ Ready
  pub past_done : urgency_of 13 10 12 true ≡ Overdue
  pub single : urgency_of 10 10 10 false ≡ Alert
