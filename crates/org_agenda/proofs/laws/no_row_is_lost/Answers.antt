use Rattle.org_agenda.proofs.KeptLemmas.{no_row_is_lost as proved}
use Rattle.org_agenda.proofs.laws.no_row_is_lost.Goals as goal

pub returns : goal.returns
returns c = proved
