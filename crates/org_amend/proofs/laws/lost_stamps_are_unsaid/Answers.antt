use Rattle.org_amend.proofs.SaidLemmas.{lost_stamps_are_unsaid}
use Rattle.org_amend.proofs.laws.lost_stamps_are_unsaid.Goals as goal

pub returns : goal.returns
returns c = lost_stamps_are_unsaid
