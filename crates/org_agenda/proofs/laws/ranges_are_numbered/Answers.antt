use Rattle.org_agenda.proofs.RuleLemmas.{ranges}
use Rattle.org_agenda.proofs.laws.ranges_are_numbered.Goals as goal

pub returns : goal.returns
returns c = ranges
