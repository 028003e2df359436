-- What the days so far show.
use Rattle.std.proofs.Common.{◌≡◌}
use Rattle.org_answer.specs.Ahead.{lines_of_days}
use Rattle.org_answer.proofs.rows_ahead.lines_by_days.Given as goal

abbrev pub invariant-loop-ahead : goal.invariant-loop-ahead
invariant-loop-ahead l = l.lines.items ≡ lines_of_days l.all l.agenda.first l.ahead
