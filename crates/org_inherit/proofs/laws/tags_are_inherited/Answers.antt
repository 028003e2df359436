use Rattle.org_inherit.proofs.LawLemmas.{tags_are_inherited}
use Rattle.org_inherit.proofs.laws.tags_are_inherited.Goals as goal

pub returns : goal.returns
returns c = tags_are_inherited
