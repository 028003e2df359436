use Rattle.org_inherit.proofs.TreeLemmas.{trees_inherit_alone}
use Rattle.org_inherit.proofs.laws.trees_inherit_alone.Goals as goal

pub returns : goal.returns
returns c = trees_inherit_alone
