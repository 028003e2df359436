use Rattle.org_amend.proofs.EndedLemmas.{one_clock_ends}
use Rattle.org_amend.proofs.laws.one_clock_ends.Goals as goal

pub returns : goal.returns
returns c = one_clock_ends
