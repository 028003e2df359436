use Rattle.org_sum.proofs.TextLemmas as lemmas
use Rattle.org_sum.proofs.laws.efforts_are_small.Goals as goal

pub returns : goal.returns
returns c = lemmas.efforts_are_small
