use Rattle.org_act.proofs.ClockBeginLemmas.{acts_begin_one_clock}
use Rattle.org_act.proofs.laws.acts_begin_one_clock.Goals as goal

pub returns : goal.returns
returns c = acts_begin_one_clock
