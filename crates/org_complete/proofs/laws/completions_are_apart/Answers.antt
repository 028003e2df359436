use Rattle.org_complete.proofs.LawLemmas.{completions_apart}
use Rattle.org_complete.proofs.laws.completions_are_apart.Goals as goal

pub returns : goal.returns
returns c = completions_apart
