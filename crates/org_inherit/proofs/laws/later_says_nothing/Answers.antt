use Rattle.org_inherit.proofs.TreeLemmas.{later_says_nothing}
use Rattle.org_inherit.proofs.laws.later_says_nothing.Goals as goal

pub returns : goal.returns
returns c = later_says_nothing
