-- The order of lines in a section.
use Rattle.std.specs.Prelude.{ℕ, ◌+◌, ◌-◌, ◌^◌, Option, None, Some}
use Rattle.org_day.specs.declared.order.Order.{Order}
use Rattle.org_day.specs.declared.section.Section.{Section}
use Rattle.org_day.specs.declared.section.Section.TheVariants.{AllDay, ByTheClock, Due, Late, Planned, DueSoon, Habits}
use Rattle.org_day.specs.declared.stand.Hours.{Hours}
use Rattle.org_day.specs.declared.stand.Kind.{Kind}
use Rattle.org_day.specs.declared.stand.Kind.TheVariants.{Stamp, Range, Planned as PlannedRow, Due as DueRow, LatePlanned, LateDue, DueIn}
use Rattle.org_day.specs.declared.stand.Stand.{Stand}

abbrev pub by : ℕ → ℕ → ℕ → Order
by first second third = record { first = first; second = second; third = third }

-- as in the agenda
abbrev pub no_order : Order
no_order = by 0 0 0

-- by start; what has no end first, then by end
abbrev pub end_number : Option ℕ → ℕ
end_number None = 0
end_number (Some end) = end + 1

abbrev pub by_hours : Option Hours → Order
by_hours None = no_order
by_hours (Some hours) = by hours.start (end_number hours.end) 0

-- by priority
abbrev pub by_urgency : Stand → Order
by_urgency stand = by stand.urgency 0 0

-- deadlines before what was planned; the latest first, then by priority
abbrev pub late_by : ℕ → ℕ → ℕ → Order
late_by first days urgency = by first (2 ^ 32 - 1 - days) urgency

abbrev pub late_by_kind : ℕ → Kind → Order
late_by_kind urgency Stamp = late_by 2 0 urgency
late_by_kind urgency (Range day of) = late_by 2 0 urgency
late_by_kind urgency PlannedRow = late_by 2 0 urgency
late_by_kind urgency DueRow = late_by 2 0 urgency
late_by_kind urgency (LatePlanned days) = late_by 1 days urgency
late_by_kind urgency (LateDue days) = late_by 0 days urgency
late_by_kind urgency (DueIn days) = late_by 2 0 urgency

abbrev pub late_order : Stand → Order
late_order stand = late_by_kind stand.urgency stand.kind

-- by day, then by priority
abbrev pub days_ahead : Kind → ℕ
days_ahead Stamp = 0
days_ahead (Range day of) = 0
days_ahead PlannedRow = 0
days_ahead DueRow = 0
days_ahead (LatePlanned days) = 0
days_ahead (LateDue days) = 0
days_ahead (DueIn days) = days

abbrev pub by_days : Stand → Order
by_days stand = by (days_ahead stand.kind) stand.urgency 0

abbrev pub order_of : Stand → Section → Order
order_of stand AllDay = no_order
order_of stand ByTheClock = by_hours stand.hours
order_of stand Due = by_urgency stand
order_of stand Late = late_order stand
order_of stand Planned = by_urgency stand
order_of stand DueSoon = by_days stand
order_of stand Habits = no_order
