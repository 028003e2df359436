-- How urgent a heading is (profile, after taskwarrior 3, "Urgency"): in hundredths, the greater the more urgent.
use Rattle.std.specs.Prelude.{ℕ, ◌+◌, ◌-◌, ◌*◌, ◌/◌, ◌==◌, nat_le, if◌then◌else◌, Option}
use Rattle.std.specs.Option.{option_map_or}
use Rattle.org_client.specs.declared.urgency.TheConstants.{DAYS_BEFORE, DAYS_PAST}

-- by a deadline: 12 from a week past it on, 2.4 where it is more than two weeks ahead, and evenly more in between
abbrev pub due_urgency : ℕ → ℕ → ℕ
due_urgency today deadline =
    if nat_le (deadline + DAYS_PAST) today then 1200
    else if nat_le (today + DAYS_BEFORE) deadline then 240
    else 240 + 960 * (today + DAYS_BEFORE - deadline) / (DAYS_BEFORE + DAYS_PAST)

-- 5 where it is scheduled for today or a day before
abbrev pub planned_urgency : ℕ → ℕ → ℕ
planned_urgency today scheduled = if nat_le scheduled today then 500 else 0

-- 6 for the priority A, 3.9 for B, 1.8 for C: letters count by their code
abbrev pub priority_urgency : ℕ → ℕ
priority_urgency priority = if priority == 65 then 600 else if priority == 66 then 390 else if priority == 67 then 180 else 0

-- of a heading with this deadline, this scheduled day and this priority
abbrev pub urgency_of : ℕ → Option ℕ → Option ℕ → ℕ → ℕ
urgency_of today deadline scheduled priority =
    option_map_or (due_urgency today) deadline 0 + option_map_or (planned_urgency today) scheduled 0 + priority_urgency priority
