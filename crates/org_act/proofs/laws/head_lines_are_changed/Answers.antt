use Rattle.org_act.proofs.HeadActLemmas.{head_lines_are_changed}
use Rattle.org_act.proofs.laws.head_lines_are_changed.Goals as goal

pub returns : goal.returns
returns c = head_lines_are_changed
