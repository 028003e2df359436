use Rattle.org_class.proofs.PartLemmas.{sections_have_parts}
use Rattle.org_class.proofs.laws.sections_have_parts.Goals as goal

pub returns : goal.returns
returns c = sections_have_parts
