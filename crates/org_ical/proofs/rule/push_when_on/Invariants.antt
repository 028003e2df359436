-- The days so far, with those that are left.
use Rattle.std.proofs.Common.{◌≡◌, ◌++◌, drop}
use Rattle.org_ical.specs.Lines.{written}
use Rattle.org_ical.specs.Recurrences.{dates_lines}
use Rattle.org_ical.proofs.rule.push_when_on.Given as goal

abbrev pub invariant-loop-date : goal.invariant-loop-date
invariant-loop-date l =
    l.out.items ++ written (dates_lines l.when (drop l.date-index l.dates)) ≡ l.fn.out.items ++ written (dates_lines l.when l.dates)
