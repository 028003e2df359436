use Rattle.std.proofs.Common.{[], refl}
use Rattle.org_act.proofs.amendment.write_change.Goals as goal

pub returns-in_default-clause-whole : goal.returns-in_default-clause-whole
returns-in_default-clause-whole g c = record { done = []; did = record { all = refl }; whole = λ _. tt }
