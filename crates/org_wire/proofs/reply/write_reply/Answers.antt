use Rattle.org_wire.proofs.WroteLemmas.{wrote_unflushed}
use Rattle.org_wire.proofs.reply.write_reply.Goals as goal

pub returns-in-Err-clause-value : goal.returns-in-Err-clause-value
returns-in-Err-clause-value g c = wrote_unflushed _ _ _ _ c.if-not-write_whole.ensures.value c.flush.ensures.unchanged
