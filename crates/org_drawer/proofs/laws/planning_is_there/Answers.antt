use Rattle.org_drawer.proofs.ThereLemmas.{planning_is_there}
use Rattle.org_drawer.proofs.laws.planning_is_there.Goals as goal

pub returns : goal.returns
returns c = planning_is_there
