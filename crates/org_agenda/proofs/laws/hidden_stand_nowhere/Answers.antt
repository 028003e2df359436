use Rattle.org_agenda.proofs.HiddenLemmas.{stand_nowhere}
use Rattle.org_agenda.proofs.laws.hidden_stand_nowhere.Goals as goal

pub returns : goal.returns
returns c = stand_nowhere
