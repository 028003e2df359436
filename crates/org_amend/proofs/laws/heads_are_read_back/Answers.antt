use Rattle.org_amend.proofs.EntryLemmas.{heads_are_read_back}
use Rattle.org_amend.proofs.laws.heads_are_read_back.Goals as goal

pub returns : goal.returns
returns c = heads_are_read_back
