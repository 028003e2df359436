use Rattle.org_sum.proofs.GrowLemmas as lemmas
use Rattle.org_sum.proofs.laws.parts_have_no_more.Goals as goal

pub returns : goal.returns
returns c = lemmas.parts_have_no_more
