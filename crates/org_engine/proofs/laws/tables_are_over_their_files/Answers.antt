use Rattle.org_engine.proofs.RestLemmas.{tables_over}
use Rattle.org_engine.proofs.laws.tables_are_over_their_files.Goals as goal

pub returns : goal.returns
returns c = tables_over
