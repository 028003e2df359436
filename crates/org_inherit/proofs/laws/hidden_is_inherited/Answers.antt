use Rattle.org_inherit.proofs.LawLemmas.{hidden_is_inherited}
use Rattle.org_inherit.proofs.laws.hidden_is_inherited.Goals as goal

pub returns : goal.returns
returns c = hidden_is_inherited
