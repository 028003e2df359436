use Rattle.org_amend.proofs.ClassLemmas.{other_lines_stay}
use Rattle.org_amend.proofs.laws.other_lines_stay.Goals as goal

pub returns : goal.returns
returns c = other_lines_stay
