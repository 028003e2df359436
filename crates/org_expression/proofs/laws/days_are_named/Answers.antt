use Rattle.org_expression.proofs.Named.{days_are_named}
use Rattle.org_expression.proofs.laws.days_are_named.Goals as goal

pub returns : goal.returns
returns c = days_are_named
