-- What the expressions that are left choose of those so far is what all choose.
use Rattle.std.proofs.Common.{◌≡◌, drop}
use Rattle.org_client.specs.Matching.{matching}
use Rattle.org_client.proofs.matching.matching_stamps.Given as goal

abbrev pub invariant-loop-expression : goal.invariant-loop-expression
invariant-loop-expression l = matching (drop l.expression-index l.expressions) l.moment l.inherits l.some.items ≡ matching l.expressions l.moment l.inherits l.fn.stamps.items
