use Rattle.org_clocktable.proofs.LevelLemmas.{levels}
use Rattle.org_clocktable.proofs.laws.levels_are_spelled.Goals as goal

pub returns : goal.returns
returns c = levels
