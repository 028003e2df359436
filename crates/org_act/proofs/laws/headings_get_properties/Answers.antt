use Rattle.org_act.proofs.PropertyActLemmas.{headings_get_properties}
use Rattle.org_act.proofs.laws.headings_get_properties.Goals as goal

pub returns : goal.returns
returns c = headings_get_properties
