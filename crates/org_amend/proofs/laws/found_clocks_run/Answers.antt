use Rattle.org_amend.proofs.RunningLemmas.{found_clocks_run}
use Rattle.org_amend.proofs.laws.found_clocks_run.Goals as goal

pub returns : goal.returns
returns c = found_clocks_run
