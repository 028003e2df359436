-- The first of the stamps that are left is the first of all.
use Rattle.std.proofs.Common.{◌≡◌}
use Rattle.org_stamp.specs.Line.{stamps_of}
use Rattle.org_trace.specs.State.{first_inactive}
use Rattle.org_trace.proofs.state.first_inactive.Given as goal

abbrev pub invariant-loop-found : goal.invariant-loop-found
invariant-loop-found l = first_inactive l.found-iterator ≡ first_inactive (stamps_of l.line)
