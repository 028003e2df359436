use Rattle.org_stamp.proofs.PairedLemmas.{spans_are_stamps}
use Rattle.org_stamp.proofs.laws.spans_are_stamps.Goals as goal

pub returns : goal.returns
returns c = spans_are_stamps
