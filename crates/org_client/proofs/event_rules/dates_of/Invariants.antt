-- The dates so far, with those of the days that are left.
use Rattle.std.proofs.Common.{◌≡◌, ◌++◌, drop, map}
use Rattle.org_client.specs.EventTimes.{date_of}
use Rattle.org_client.proofs.event_rules.dates_of.Given as goal

abbrev pub invariant-loop-day : goal.invariant-loop-day
invariant-loop-day l = l.dates.items ++ map date_of (drop l.day-index l.days) ≡ map date_of l.days
