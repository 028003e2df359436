use Rattle.std.proofs.Common.{refl}
use Rattle.org_project.proofs.laws.examples_hold.Goals as goal

pub returns : goal.returns
returns c = record {
  done = refl;
  both_reasons = refl;
  waiting = refl;
  free = refl;
  nil = refl;
  no = refl;
  empty = refl;
  unset = refl;
  both_hold = refl;
  either_holds = refl;
}
