use Rattle.std.proofs.Common.{refl}
use Rattle.org_order.proofs.laws.examples_hold.Goals as goal

pub returns : goal.returns
returns c = record {
  by_size = refl;
  up = refl;
  down = refl;
  none_up = refl;
  none_down = refl;
  none_twice = refl;
  second = refl;
  first = refl;
  groups = refl;
  unnamed_last = refl;
  by_place = refl;
  by_group = refl;
  named = refl;
  unnamed = refl;
}
