use Rattle.org_index.proofs.KeyLemmas.{ok_keeps, ok_adds}
use Rattle.org_index.proofs.day_set.gather.Goals as goal

pub returns-clause-keeps : goal.returns-clause-keeps
returns-clause-keeps c = ok_keeps c.gather_all.result _ _ _ _ _ c.gather_all.ensures

pub returns-clause-adds : goal.returns-clause-adds
returns-clause-adds c = ok_adds c.gather_all.result _ _ _ _ _ c.gather_all.ensures
