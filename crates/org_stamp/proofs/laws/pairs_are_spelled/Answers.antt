use Rattle.org_stamp.proofs.PairedLemmas.{pairs_are_spelled}
use Rattle.org_stamp.proofs.laws.pairs_are_spelled.Goals as goal

pub returns : goal.returns
returns c = pairs_are_spelled
