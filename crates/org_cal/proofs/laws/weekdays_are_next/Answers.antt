use Rattle.org_cal.proofs.TypedLemmas.{weekdays_are_next}
use Rattle.org_cal.proofs.laws.weekdays_are_next.Goals as goal

pub returns : goal.returns
returns c = weekdays_are_next
