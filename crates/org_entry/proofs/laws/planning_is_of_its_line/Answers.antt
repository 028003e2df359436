use Rattle.org_entry.proofs.PlanningLemmas.{planning_is_of_its_line}
use Rattle.org_entry.proofs.laws.planning_is_of_its_line.Goals as goal

pub returns : goal.returns
returns c = planning_is_of_its_line
