use Rattle.org_agenda.proofs.RuleLemmas.{delays}
use Rattle.org_agenda.proofs.laws.delays_are_days.Goals as goal

pub returns : goal.returns
returns c = delays
