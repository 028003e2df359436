use Rattle.org_layout.proofs.LineLemmas.{sums}
use Rattle.org_layout.proofs.laws.sums_are_spelled.Goals as goal

pub returns : goal.returns
returns c = sums
