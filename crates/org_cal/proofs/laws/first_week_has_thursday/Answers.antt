use Rattle.org_cal.proofs.WeekLawLemmas.{first_week_has_thursday}
use Rattle.org_cal.proofs.laws.first_week_has_thursday.Goals as goal

pub returns : goal.returns
returns c = first_week_has_thursday
