use Rattle.org_wire.proofs.ReplyLemmas.{replies_are_read_back}
use Rattle.org_wire.proofs.laws.replies_are_read_back.Goals as goal

pub returns : goal.returns
returns c = replies_are_read_back
