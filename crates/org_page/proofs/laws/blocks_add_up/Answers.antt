use Rattle.org_page.proofs.SumLemmas.{blocks_add_up}
use Rattle.org_page.proofs.laws.blocks_add_up.Goals as goal

pub returns : goal.returns
returns c = blocks_add_up
