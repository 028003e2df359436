use Rattle.std.proofs.Common.{◌≡◌, ◌++◌, take}
use Rattle.org_client.specs.Reminders.{day_between}
use Rattle.org_client.proofs.reminders.push_between.Given as goal

abbrev pub invariant-loop-row : goal.invariant-loop-row
invariant-loop-row l = l.between.items ≡ l.fn.between.items ++ day_between l.window.after l.window.until l.day (take l.row-index l.rows)
