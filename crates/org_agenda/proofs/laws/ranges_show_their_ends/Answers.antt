use Rattle.org_agenda.proofs.RuleLemmas.{ends}
use Rattle.org_agenda.proofs.laws.ranges_show_their_ends.Goals as goal

pub returns : goal.returns
returns c = ends
