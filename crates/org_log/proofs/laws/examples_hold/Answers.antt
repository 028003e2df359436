use Rattle.std.proofs.Common.{refl}
use Rattle.org_log.proofs.laws.examples_hold.Goals as goal

pub returns : goal.returns
returns c = record {
  key_and_marks = refl;
  leaving_alone = refl;
  key_alone = refl;
  two_marks = refl;
  done_unsaid = refl;
  comes_again = refl;
  done_by_time = refl;
  done_by_note = refl;
  done_with_a_mark = refl;
  open_again = refl;
  open_again_unsaid = refl;
  with_a_note = refl;
}
