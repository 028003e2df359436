use Rattle.org_engine.proofs.RestLemmas.{limits}
use Rattle.org_engine.proofs.laws.limits_are_named.Goals as goal

pub returns : goal.returns
returns c = limits
