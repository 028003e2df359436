use Rattle.std.proofs.Common.{[], ◌∷◌}
use Rattle.org_save.specs.Events.{gave_access, tore, wrote}
use Rattle.org_save.specs.declared.name.Name.TheVariants.{Temporary}
use Rattle.org_save.proofs.EventLemmas.{one_more}
use Rattle.org_save.proofs.replacement.fill.Goals as goal

pub returns-in-Err-clause-err : goal.returns-in-Err-clause-err
returns-in-Err-clause-err g c = record { done = []; did = record { all = c.in-Err.ensures }; target = tt }

pub returns-in-Err-write-clause-err : goal.returns-in-Err-write-clause-err
returns-in-Err-write-clause-err g c = record {
  done = tore Temporary ∷ gave_access Temporary ∷ [];
  did = record { all = one_more _ _ _ _ (gave_access Temporary ∷ []) c.in-Err-write.ensures c.in_default.ensures };
  target = (tt, (tt, tt));
}

pub returns-in-Err-sync-clause-err : goal.returns-in-Err-sync-clause-err
returns-in-Err-sync-clause-err g c = record {
  done = tore Temporary ∷ wrote Temporary c.args.new.now ∷ gave_access Temporary ∷ [];
  did = record { all = one_more _ _ _ _ (wrote Temporary c.args.new.now ∷ gave_access Temporary ∷ []) c.in-Err-sync.ensures (one_more _ _ _ _ (gave_access Temporary ∷ []) c.in_default-write.ensures c.in_default.ensures) };
  target = (tt, (tt, (tt, tt)));
}
