use Rattle.org_history.proofs.AgainLemmas.{change_again}
use Rattle.org_history.proofs.laws.changes_are_found.Goals as goal

pub returns : goal.returns
returns c = change_again
