use Rattle.org_client.proofs.IdLawLemmas as lemmas
use Rattle.org_client.proofs.laws.ids_stand_for_what_was_listed.Goals as goal

pub returns : goal.returns
returns c = lemmas.ids_stand_for_what_was_listed
