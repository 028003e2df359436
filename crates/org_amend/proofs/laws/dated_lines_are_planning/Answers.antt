use Rattle.org_amend.proofs.ClassLemmas.{dated_lines_are_planning}
use Rattle.org_amend.proofs.laws.dated_lines_are_planning.Goals as goal

pub returns : goal.returns
returns c = dated_lines_are_planning
