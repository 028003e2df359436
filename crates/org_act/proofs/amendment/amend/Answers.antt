use Rattle.org_act.proofs.AmendLemmas.{nothing_done}
use Rattle.org_act.proofs.amendment.amend.Goals as goal

pub returns-in-Err-clause-whole : goal.returns-in-Err-clause-whole
returns-in-Err-clause-whole g c = nothing_done (g.A.Act.amended c.args.act.now c.args.old.now) (g.S.Store.events c.args.store.now)
