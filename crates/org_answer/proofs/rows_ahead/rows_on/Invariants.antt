-- Those of the rows so far.
use Rattle.std.proofs.Common.{◌≡◌, take}
use Rattle.org_answer.specs.Ahead.{rows_on}
use Rattle.org_answer.proofs.rows_ahead.rows_on.Given as goal

abbrev pub invariant-loop-upcoming : goal.invariant-loop-upcoming
invariant-loop-upcoming l = l.rows.items ≡ rows_on (take l.upcoming-index l.all) l.day
