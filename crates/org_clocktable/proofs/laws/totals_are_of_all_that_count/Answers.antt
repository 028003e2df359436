use Rattle.org_clocktable.proofs.TotalLemmas.{totals}
use Rattle.org_clocktable.proofs.laws.totals_are_of_all_that_count.Goals as goal

pub returns : goal.returns
returns c = totals
