use Rattle.org_amend.proofs.CancelLemmas.{others_stay}
use Rattle.org_amend.proofs.laws.others_stay.Goals as goal

pub returns : goal.returns
returns c = others_stay
