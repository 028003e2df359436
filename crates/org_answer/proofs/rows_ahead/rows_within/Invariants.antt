-- Those of the rows so far.
use Rattle.std.proofs.Common.{◌≡◌, take}
use Rattle.std.specs.Prelude.{filter}
use Rattle.org_answer.specs.Ahead.{begins_soon}
use Rattle.org_answer.proofs.rows_ahead.rows_within.Given as goal

abbrev pub invariant-loop-upcoming : goal.invariant-loop-upcoming
invariant-loop-upcoming l = l.rows.items ≡ filter (begins_soon l.now l.minutes) (take l.upcoming-index l.all)
