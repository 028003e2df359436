use Rattle.org_store.proofs.HeadingLemmas.{headings_are_there}
use Rattle.org_store.proofs.laws.headings_are_there.Goals as goal

pub returns : goal.returns
returns c = headings_are_there
