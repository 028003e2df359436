-- What the expressions that are left choose of those so far is what all choose.
use Rattle.std.proofs.Common.{◌≡◌, drop}
use Rattle.org_client.specs.LogRows.{chosen_log}
use Rattle.org_client.proofs.logged.matching_rows.Given as goal

abbrev pub invariant-loop-expression : goal.invariant-loop-expression
invariant-loop-expression l = chosen_log (drop l.expression-index l.expressions) l.moment l.inherits l.some.items ≡ chosen_log l.expressions l.moment l.inherits l.fn.rows.items
