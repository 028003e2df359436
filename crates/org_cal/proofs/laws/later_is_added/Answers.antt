use Rattle.org_cal.proofs.TypedLemmas.{later_is_added}
use Rattle.org_cal.proofs.laws.later_is_added.Goals as goal

pub returns : goal.returns
returns c = later_is_added
