use Rattle.org_amend.proofs.PropertyLemmas.{properties_are_given}
use Rattle.org_amend.proofs.laws.properties_are_given.Goals as goal

pub returns : goal.returns
returns c = properties_are_given
