use Rattle.org_expression.proofs.Decimals.{fronts_are_decimals}
use Rattle.org_expression.proofs.laws.fronts_are_decimals.Goals as goal

pub returns : goal.returns
returns c = fronts_are_decimals
