-- How urgent a habit is on a day (Org manual 9.6, "Tracking your habits").
use Rattle.std.specs.Prelude.{ℕ, Bool, nat_lt, if◌then◌else◌}
use Rattle.org_habit.specs.declared.urgency.Urgency.{Urgency}
use Rattle.org_habit.specs.declared.urgency.Urgency.TheVariants.{Clear, Ready, Alert, Overdue}

-- on a day, of one that is planned for a day and has a last one: before it, on it and after, on the last one, and past that; what is
-- done on the last one is in time
abbrev pub urgency_of : ℕ → ℕ → ℕ → Bool → Urgency
urgency_of day planned last done =
    if nat_lt day planned then Clear
    else (if nat_lt day last then Ready else (if nat_lt last day then Overdue else (if done then Ready else Alert)))
