use Rattle.org_act.proofs.ClockSumLemmas.{own_minutes_grow}
use Rattle.org_act.proofs.laws.own_minutes_grow.Goals as goal

pub returns : goal.returns
returns c = own_minutes_grow
