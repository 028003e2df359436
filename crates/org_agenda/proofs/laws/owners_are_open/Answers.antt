use Rattle.org_agenda.proofs.OpenLemmas.{opens}
use Rattle.org_agenda.proofs.laws.owners_are_open.Goals as goal

pub returns : goal.returns
returns c = opens
