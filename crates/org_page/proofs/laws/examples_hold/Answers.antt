use Rattle.std.proofs.Common.{refl}
use Rattle.std.specs.Fmt.{digits}
use Rattle.org_page.proofs.laws.examples_hold.Goals as goal

pub returns : goal.returns
unfolding digits
returns c = record {
  five = refl;
  named = refl;
  control = refl;
  name = refl;
  tag = refl;
  value = refl;
  path = refl;
  scheme = refl;
  umlaut = refl;
  early = refl;
  late = refl;
  short = refl;
  long = refl;
  blocks = refl;
  column = refl;
  columns = refl;
}
