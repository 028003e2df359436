use Rattle.org_agenda.proofs.KeptLemmas.{keys}
use Rattle.org_agenda.proofs.laws.keys_are_ordered.Goals as goal

pub returns : goal.returns
returns c = keys
