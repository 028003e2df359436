use Rattle.org_cal.proofs.TypedLemmas.{earlier_is_added}
use Rattle.org_cal.proofs.laws.earlier_is_added.Goals as goal

pub returns : goal.returns
returns c = earlier_is_added
