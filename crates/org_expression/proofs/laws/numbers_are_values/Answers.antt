use Rattle.org_expression.proofs.Decimals.{numbers_are_values}
use Rattle.org_expression.proofs.laws.numbers_are_values.Goals as goal

pub returns : goal.returns
returns c = numbers_are_values
