use Rattle.std.proofs.Common.{[], ◌∷◌}
use Rattle.org_save.specs.Events.{made, tore, wrote}
use Rattle.org_save.specs.declared.name.Name.TheVariants.{Rescue}
use Rattle.org_save.proofs.EventLemmas.{either_failed, on_err, one_more}
use Rattle.org_save.proofs.finish.rescue.Goals as goal

pub returns-in_err-make-clause-err : goal.returns-in_err-make-clause-err
returns-in_err-make-clause-err g c =
    on_err c.from_residual.result _ record { done = []; did = record { all = c.in_err-make.ensures }; target = tt; temporary = tt }

pub returns-in_err-write-clause-err : goal.returns-in_err-write-clause-err
returns-in_err-write-clause-err g c = on_err c.from_residual-in_err-write.result _ record {
  done = tore Rescue ∷ made Rescue ∷ [];
  did = record { all = one_more _ _ _ _ (made Rescue ∷ []) c.in_err-write.ensures c.in_ok-make.ensures };
  target = (tt, (tt, tt));
  temporary = (tt, (tt, tt));
}

pub returns-clause-err : goal.returns-clause-err
returns-clause-err g c = either_failed c.sync.result _ _ _ _ _ c.sync.ensures (λ tore_it. record {
  done = tore Rescue ∷ wrote Rescue c.args.bytes.now ∷ made Rescue ∷ [];
  did = record { all = one_more _ _ _ _ (wrote Rescue c.args.bytes.now ∷ made Rescue ∷ []) tore_it (one_more _ _ _ _ (made Rescue ∷ []) c.in_ok-write.ensures c.in_ok-make.ensures) };
  target = (tt, (tt, (tt, tt)));
  temporary = (tt, (tt, (tt, tt)));
})
