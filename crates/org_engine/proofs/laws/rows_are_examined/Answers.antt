use Rattle.org_engine.proofs.ShownLemmas.{rows_examined}
use Rattle.org_engine.proofs.laws.rows_are_examined.Goals as goal

pub returns : goal.returns
returns c = rows_examined
