use Rattle.org_history.proofs.AgainLemmas.{history_again}
use Rattle.org_history.proofs.laws.histories_are_read.Goals as goal

pub returns : goal.returns
returns c = history_again
