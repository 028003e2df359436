use Rattle.org_complete.proofs.RefusalLemmas.{in_order}
use Rattle.org_complete.proofs.laws.refusals_come_in_order.Goals as goal

pub returns : goal.returns
returns c = in_order
