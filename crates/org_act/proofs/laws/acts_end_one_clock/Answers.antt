use Rattle.org_act.proofs.ClockTextLemmas.{acts_end_one_clock}
use Rattle.org_act.proofs.laws.acts_end_one_clock.Goals as goal

pub returns : goal.returns
returns c = acts_end_one_clock
