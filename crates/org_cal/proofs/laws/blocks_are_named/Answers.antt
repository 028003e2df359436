use Rattle.org_cal.proofs.NamedLemmas.{blocks_are_named}
use Rattle.org_cal.proofs.laws.blocks_are_named.Goals as goal

pub returns : goal.returns
returns c = blocks_are_named
