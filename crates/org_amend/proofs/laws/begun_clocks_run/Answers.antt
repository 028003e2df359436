use Rattle.org_amend.proofs.EndLemmas.{begun_clocks_run}
use Rattle.org_amend.proofs.laws.begun_clocks_run.Goals as goal

pub returns : goal.returns
returns c = begun_clocks_run
