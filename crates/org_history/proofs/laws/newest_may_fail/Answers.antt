use Rattle.org_history.proofs.SettledLemmas.{newest_may_fail}
use Rattle.org_history.proofs.laws.newest_may_fail.Goals as goal

pub returns : goal.returns
returns c = newest_may_fail
