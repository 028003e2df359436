use Rattle.std.proofs.Common.{refl}
use Rattle.org_answer.proofs.laws.examples_hold.Goals as goal

pub returns : goal.returns
returns c = record {
  late_alike = refl;
  soon_alike = refl;
  due_alike = refl;
  seventh_file = refl;
  sixth_file = refl;
  bare_part = refl;
  late_part = refl;
  parts_in_turn = refl;
  bare_line = refl;
  late_line = refl;
}
