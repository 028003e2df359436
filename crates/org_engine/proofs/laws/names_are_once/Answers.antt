use Rattle.org_engine.proofs.NameLemmas as lemmas
use Rattle.org_engine.proofs.laws.names_are_once.Goals as goal

pub returns : goal.returns
returns c = lemmas.names_are_once
