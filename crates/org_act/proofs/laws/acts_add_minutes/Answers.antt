use Rattle.org_act.proofs.ClockMinuteLemmas.{acts_add_minutes}
use Rattle.org_act.proofs.laws.acts_add_minutes.Goals as goal

pub returns : goal.returns
returns c = acts_add_minutes
