use Rattle.org_page.proofs.SumLemmas.{columns_add_up}
use Rattle.org_page.proofs.laws.columns_add_up.Goals as goal

pub returns : goal.returns
returns c = columns_add_up
