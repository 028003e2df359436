use Rattle.std.specs.Prelude.{string_bytes}
use Rattle.orgq_acts.proofs.AmendingLemmas.{nothing_done}
use Rattle.orgq_acts.proofs.amending.carry_out.Goals as goal

pub returns-in-Err-clause-whole : goal.returns-in-Err-clause-whole
returns-in-Err-clause-whole g c = nothing_done (g.A.Act.amended c.args.act.now (string_bytes c.args.heading.now.text)) (g.S.Store.events c.args.store.now)
