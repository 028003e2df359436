use Rattle.org_act.proofs.TurnLemmas.{one_refusal_is_of_all}
use Rattle.org_act.proofs.laws.one_refusal_is_of_all.Goals as goal

pub returns : goal.returns
returns c = one_refusal_is_of_all
