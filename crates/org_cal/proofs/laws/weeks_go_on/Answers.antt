use Rattle.org_cal.proofs.WeekLawLemmas.{weeks_go_on}
use Rattle.org_cal.proofs.laws.weeks_go_on.Goals as goal

pub returns : goal.returns
returns c = weeks_go_on
