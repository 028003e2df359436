use Rattle.org_agenda.proofs.KeptLemmas.{limits}
use Rattle.org_agenda.proofs.laws.limits_are_named.Goals as goal

pub returns : goal.returns
returns c = limits
