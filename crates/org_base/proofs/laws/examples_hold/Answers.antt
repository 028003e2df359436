use Rattle.std.proofs.Common.{refl}
use Rattle.org_base.proofs.laws.examples_hold.Goals as goal

pub returns : goal.returns
returns c = record {
  behind_space = refl;
  before_space = refl;
  within_space = refl;
  first_of_two = refl;
  space_is_blank = refl;
  letters_are_not = refl;
  either_case = refl;
  one_letter_more = refl;
  longest_name = refl;
  too_long = refl;
  mark_alone = refl;
  accented = refl;
  no_byte = refl;
  with_space = refl;
  with_tab = refl;
  control = refl;
  delete = refl;
  small_letters = refl;
  read_once = refl;
  counts_end = refl;
}
