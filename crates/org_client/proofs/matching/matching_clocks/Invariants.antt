-- What the expressions that are left choose of those so far is what all choose.
use Rattle.std.proofs.Common.{◌≡◌, drop}
use Rattle.org_client.specs.Matching.{all_clocks}
use Rattle.org_client.proofs.matching.matching_clocks.Given as goal

abbrev pub invariant-loop-expression : goal.invariant-loop-expression
invariant-loop-expression l = all_clocks (drop l.expression-index l.expressions) l.moment l.inherits l.some.items ≡ all_clocks l.expressions l.moment l.inherits l.fn.rows.items
