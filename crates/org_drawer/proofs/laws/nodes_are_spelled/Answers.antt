use Rattle.org_drawer.proofs.NodeLemmas.{nodes_are_spelled}
use Rattle.org_drawer.proofs.laws.nodes_are_spelled.Goals as goal

pub returns : goal.returns
returns c = nodes_are_spelled
