use Rattle.org_engine.proofs.RestLemmas.{leave_the_rest}
use Rattle.org_engine.proofs.laws.commands_leave_the_rest.Goals as goal

pub returns : goal.returns
returns c = leave_the_rest
