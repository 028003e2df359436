use Rattle.std.proofs.Common.{◌∙◌, ◌∷◌, refl, inl}
use Rattle.org_save.specs.Events.{listed}
use Rattle.org_save.proofs.EventLemmas.{one_more}
use Rattle.org_save.proofs.FinishLemmas.{not_both, restored_more, says_more}
use Rattle.org_save.proofs.finish.finish.Goals as goal

pub returns-in-Ok : goal.returns-in-Ok
returns-in-Ok g c =
    let settled = c.settle-settled.ensures.value in
    record {
      value = record {
        done = listed ∷ settled.done;
        did = record { all = one_more listed _ _ _ settled.done c.in-Ok.ensures settled.did.all };
        target = (inl tt, settled.target);
        temporary = (tt, settled.temporary);
        meanwhile = says_more _ _ settled.done settled.meanwhile;
        again = restored_more _ _ settled.done settled.again;
        durable = λ _. record { earlier = settled.done; all = refl };
      };
    }

pub returns-in-Err : goal.returns-in-Err
returns-in-Err g c =
    let settled = c.settle-settled.ensures.value in
    record {
      value = record {
        done = settled.done;
        did = record { all = c.in-Err.ensures ∙ settled.did.all };
        target = settled.target;
        temporary = settled.temporary;
        meanwhile = settled.meanwhile;
        again = settled.again;
        durable = λ is. not_both _ _ settled.durable is;
      };
    }
