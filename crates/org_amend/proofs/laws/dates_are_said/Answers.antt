use Rattle.org_amend.proofs.SaidLemmas.{dates_are_said}
use Rattle.org_amend.proofs.laws.dates_are_said.Goals as goal

pub returns : goal.returns
returns c = dates_are_said
