use Rattle.std.proofs.Common.{refl}
use Rattle.orgls_text.specs.Positions.{cursor_behind, last_within}
use Rattle.orgls_text.proofs.laws.examples_hold.Goals as goal

pub returns : goal.returns
unfolding cursor_behind last_within
returns c = record {
  behind_two = refl;
  behind_four = refl;
  behind_four_bytes = refl;
  back = refl;
  inside = refl;
  inside_bytes = refl;
  second_line = refl;
  third_line = refl;
  of_second = refl;
  line_end = refl;
  text_end = refl;
  end_of_none = refl;
  one_more = refl;
  of_one_more = refl;
}
