use Rattle.org_engine.proofs.RestLemmas as lemmas
use Rattle.org_engine.proofs.laws.lists_are_over_their_files.Goals as goal

pub returns : goal.returns
returns c = lemmas.lists_over
