use Rattle.org_agenda.proofs.KindLemmas.{kinds}
use Rattle.org_agenda.proofs.laws.kinds_are_by_rule.Goals as goal

pub returns : goal.returns
returns c = kinds
