use Rattle.std.proofs.Common.{◌≡◌}
use Rattle.std.specs.List.{flat_map, range_with_len}
use Rattle.org_agenda.specs.Days.{day_rows}
use Rattle.org_client.specs.Reminders.{day_between}
use Rattle.org_client.proofs.reminders.rows_between.Given as goal

abbrev pub invariant-loop-ahead : goal.invariant-loop-ahead
invariant-loop-ahead l =
    l.between.items ≡ flat_map (λ day. day_between l.window.after l.window.until day (day_rows l.agenda.profile l.agenda.sources l.agenda.today day)) (range_with_len l.agenda.first l.ahead)
