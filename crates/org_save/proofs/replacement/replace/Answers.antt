use Rattle.std.proofs.Common.{[], inr, refl}
use Rattle.org_save.proofs.replacement.replace.Goals as goal

pub returns-in-Err-clause-whole : goal.returns-in-Err-clause-whole
returns-in-Err-clause-whole g c = record { done = []; did = record { all = refl }; whole = λ _. tt }
