use Rattle.org_inherit.proofs.OrderLemmas.{tags_keep_their_order}
use Rattle.org_inherit.proofs.laws.tags_keep_their_order.Goals as goal

pub returns : goal.returns
returns c = tags_keep_their_order
