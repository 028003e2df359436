use Rattle.org_engine.proofs.RestLemmas.{pins_keep}
use Rattle.org_engine.proofs.laws.pins_keep_the_world.Goals as goal

pub returns : goal.returns
returns c = pins_keep
