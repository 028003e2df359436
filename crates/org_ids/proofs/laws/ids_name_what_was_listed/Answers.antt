use Rattle.org_ids.proofs.LawLemmas.{ids_name_what_was_listed}
use Rattle.org_ids.proofs.laws.ids_name_what_was_listed.Goals as goal

pub returns : goal.returns
returns c = ids_name_what_was_listed
