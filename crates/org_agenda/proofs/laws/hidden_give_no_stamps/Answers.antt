use Rattle.org_agenda.proofs.HiddenLemmas.{give_no_stamps}
use Rattle.org_agenda.proofs.laws.hidden_give_no_stamps.Goals as goal

pub returns : goal.returns
returns c = give_no_stamps
