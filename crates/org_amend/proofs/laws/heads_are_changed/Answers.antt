use Rattle.org_amend.proofs.HeadChangeLemmas.{heads_are_changed}
use Rattle.org_amend.proofs.laws.heads_are_changed.Goals as goal

pub returns : goal.returns
returns c = heads_are_changed
