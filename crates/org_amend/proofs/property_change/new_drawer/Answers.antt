use Rattle.std.proofs.Common.{subst}
use Rattle.std.specs.Prelude.{Option}
use Rattle.org_amend.proofs.PutLemmas.{new_with}
use Rattle.org_amend.specs.DrawerPuts.{GivesPut, Put}
use Rattle.org_amend.proofs.property_change.new_drawer.Goals as goal

pub returns-in-Some-clause-value : goal.returns-in-Some-clause-value
returns-in-Some-clause-value c =
    subst (λ (put : Option Put). GivesPut c.drawer_with.result put)
    (new_with c.args.change.now c.args.end.now c.as_bytes-name.result.now c.as_bytes.result.now c.in-Some.value c.as_bytes-name.ensures.value c.in-Some.is c.as_bytes.ensures.value) c.drawer_with.ensures.value
