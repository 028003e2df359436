use Rattle.std.proofs.Common.{◌++◌}
use Rattle.org_act.proofs.PlanLemmas.{made, refused, sized_is}
use Rattle.org_act.proofs.completion.CompletionAct.plan.Goals as goal

pub plan_in-requires : goal.plan_in-requires
plan_in-requires c = record { whole = sized_is (c.args.text.now ++ c.args.self.now.behind.now) c.in-Ok.file.text c.in-Ok.ensures.value }

pub returns-in-Ok : goal.returns-in-Ok
returns-in-Ok c = record { value = made c.args.self.now c.args.text.now c.in-Ok.file.text c.plan_in.result c.in-Ok.ensures.value c.plan_in.ensures.value }

pub returns-in-Err : goal.returns-in-Err
returns-in-Err c = record { value = refused c.args.self.now c.args.text.now c.in-Err.fault c.in-Err.ensures.value }
