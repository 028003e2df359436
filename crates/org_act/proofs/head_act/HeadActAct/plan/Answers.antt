use Rattle.org_act.proofs.HeadActLemmas.{head_made, head_refused}
use Rattle.org_act.proofs.head_act.HeadActAct.plan.Goals as goal

pub returns-in-Ok : goal.returns-in-Ok
returns-in-Ok c = record { value = head_made c.args.self.now c.args.text.now c.in-Ok.file.text c.plan_in.result c.in-Ok.ensures.value c.plan_in.ensures.value }

pub returns-in-Err : goal.returns-in-Err
returns-in-Err c = record { value = head_refused c.args.self.now c.args.text.now c.in-Err.fault c.in-Err.ensures.value }
