use Rattle.org_act.proofs.TakingBackLemmas.{acts_are_taken_back}
use Rattle.org_act.proofs.laws.acts_are_taken_back.Goals as goal

pub returns : goal.returns
returns c = acts_are_taken_back
