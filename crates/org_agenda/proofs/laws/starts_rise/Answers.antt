use Rattle.org_agenda.proofs.KeptLemmas.{starts_rise as proved}
use Rattle.org_agenda.proofs.laws.starts_rise.Goals as goal

pub returns : goal.returns
returns c = proved
