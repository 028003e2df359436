use Rattle.org_act.proofs.AddingLemmas.{headings_are_added}
use Rattle.org_act.proofs.laws.headings_are_added.Goals as goal

pub returns : goal.returns
returns c = headings_are_added
