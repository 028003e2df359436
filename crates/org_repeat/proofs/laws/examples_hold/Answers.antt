use Rattle.std.proofs.Common.{refl}
use Rattle.org_repeat.specs.Decided.{occurs}
use Rattle.org_repeat.specs.Shift.{shift_of}
use Rattle.org_repeat.proofs.laws.examples_hold.Goals as goal

pub returns : goal.returns
unfolding occurs shift_of
returns c = record { from_today = refl; range_stands_once = refl }
