use Rattle.org_act.proofs.PlanningLemmas.{headings_are_planned}
use Rattle.org_act.proofs.laws.headings_are_planned.Goals as goal

pub returns : goal.returns
returns c = headings_are_planned
