use Rattle.org_wire.proofs.SerialReplyLemmas.{framed_streams}
use Rattle.org_wire.proofs.laws.streams_are_framed.Goals as goal

pub returns : goal.returns
returns c = framed_streams
