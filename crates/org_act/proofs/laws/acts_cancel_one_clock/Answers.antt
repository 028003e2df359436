use Rattle.org_act.proofs.ClockCancelLemmas.{acts_cancel_one_clock}
use Rattle.org_act.proofs.laws.acts_cancel_one_clock.Goals as goal

pub returns : goal.returns
returns c = acts_cancel_one_clock
