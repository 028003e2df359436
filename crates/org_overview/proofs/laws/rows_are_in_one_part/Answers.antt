use Rattle.org_overview.proofs.PartLemmas as lemmas
use Rattle.org_overview.proofs.laws.rows_are_in_one_part.Goals as goal

pub returns : goal.returns
returns c = lemmas.rows_are_in_one_part
