use Rattle.org_agenda.proofs.MeantLemmas as lemmas
use Rattle.org_agenda.proofs.laws.near_is_meant.Goals as goal

pub returns : goal.returns
returns c = lemmas.near_is_meant
