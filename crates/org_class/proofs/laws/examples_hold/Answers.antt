use Rattle.std.proofs.Common.{refl}
use Rattle.org_class.proofs.laws.examples_hold.Goals as goal

pub returns : goal.returns
returns c = record { counts = refl; none_in_a_block = refl }
