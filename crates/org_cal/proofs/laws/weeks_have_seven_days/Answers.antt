use Rattle.org_cal.proofs.WeekLawLemmas.{weeks_have_seven_days}
use Rattle.org_cal.proofs.laws.weeks_have_seven_days.Goals as goal

pub returns : goal.returns
returns c = weeks_have_seven_days
