use Rattle.org_expression.proofs.Fronts as fronts
use Rattle.org_expression.proofs.laws.one_longest_front.Goals as goal

pub returns : goal.returns
returns c = fronts.one_longest_front
