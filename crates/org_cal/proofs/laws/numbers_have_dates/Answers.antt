use Rattle.org_cal.proofs.PartLemmas.{date_holds}
use Rattle.org_cal.proofs.laws.numbers_have_dates.Goals as goal

pub returns : goal.returns
returns c = date_holds
