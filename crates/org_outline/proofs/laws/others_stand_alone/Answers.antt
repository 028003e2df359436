use Rattle.org_outline.proofs.Below.{others_stand_alone}
use Rattle.org_outline.proofs.laws.others_stand_alone.Goals as goal

pub returns : goal.returns
returns c = others_stand_alone
