use Rattle.org_history.proofs.BeforeLemmas.{taken_back}
use Rattle.org_history.proofs.laws.changes_are_taken_back.Goals as goal

pub returns : goal.returns
returns c = taken_back
