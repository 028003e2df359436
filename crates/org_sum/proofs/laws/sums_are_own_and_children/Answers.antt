use Rattle.org_sum.proofs.ChildLemmas as lemmas
use Rattle.org_sum.proofs.laws.sums_are_own_and_children.Goals as goal

pub returns : goal.returns
returns c = lemmas.sums_are_own_and_children
