use Rattle.org_amend.proofs.EntryLemmas.{entries_are_read_back}
use Rattle.org_amend.proofs.laws.entries_are_read_back.Goals as goal

pub returns : goal.returns
returns c = entries_are_read_back
