use Rattle.std.proofs.Common.{refl}
use Rattle.org_sequence.proofs.sums.Sums.plus.Goals as goal

pub returns : goal.returns
returns c = record { value = refl }
