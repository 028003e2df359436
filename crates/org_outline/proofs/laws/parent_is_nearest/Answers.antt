use Rattle.org_outline.proofs.Parents.{parent_is_nearest}
use Rattle.org_outline.proofs.laws.parent_is_nearest.Goals as goal

pub returns : goal.returns
returns c = parent_is_nearest
