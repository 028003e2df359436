-- Those of the rows so far.
use Rattle.std.proofs.Common.{◌≡◌, take}
use Rattle.std.specs.Prelude.{filter}
use Rattle.org_client.specs.Matching.{is_clock_matching}
use Rattle.org_client.proofs.matching.clocks_held.Given as goal

abbrev pub invariant-loop-row : goal.invariant-loop-row
invariant-loop-row l = l.some.items ≡ filter (is_clock_matching l.held) (take l.row-index l.rows)
