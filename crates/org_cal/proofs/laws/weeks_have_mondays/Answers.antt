use Rattle.org_cal.proofs.WeekLawLemmas.{weeks_have_mondays}
use Rattle.org_cal.proofs.laws.weeks_have_mondays.Goals as goal

pub returns : goal.returns
returns c = weeks_have_mondays
