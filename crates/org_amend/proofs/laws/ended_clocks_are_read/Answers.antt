use Rattle.org_amend.proofs.EndLemmas.{ended_clocks_are_read}
use Rattle.org_amend.proofs.laws.ended_clocks_are_read.Goals as goal

pub returns : goal.returns
returns c = ended_clocks_are_read
