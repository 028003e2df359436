use Rattle.org_act.proofs.ClockSumLemmas.{sums_grow_above}
use Rattle.org_act.proofs.laws.sums_grow_above.Goals as goal

pub returns : goal.returns
returns c = sums_grow_above
