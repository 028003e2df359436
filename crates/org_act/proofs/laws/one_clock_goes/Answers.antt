use Rattle.org_act.proofs.ClockEntryLemmas.{one_clock_goes}
use Rattle.org_act.proofs.laws.one_clock_goes.Goals as goal

pub returns : goal.returns
returns c = one_clock_goes
