use Rattle.org_reading.proofs.Folds.{folds_hold as proved}
use Rattle.org_reading.proofs.laws.folds_hold.Goals as goal

pub returns : goal.returns
returns c = proved
