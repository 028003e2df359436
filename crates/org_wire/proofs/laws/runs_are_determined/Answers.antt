use Rattle.org_wire.proofs.DeterminedLemmas.{runs_are_determined}
use Rattle.org_wire.proofs.laws.runs_are_determined.Goals as goal

pub returns : goal.returns
returns c = runs_are_determined
