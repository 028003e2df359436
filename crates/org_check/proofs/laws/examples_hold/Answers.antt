use Rattle.std.proofs.Common.{refl}
use Rattle.org_check.specs.UnreadStamps.{unread_from}
use Rattle.org_stamp.specs.Inner.{inner_of}
use Rattle.org_stamp.specs.Read.{single_of}
use Rattle.org_stamp.specs.Word.{words}
use Rattle.org_check.proofs.laws.examples_hold.Goals as goal

pub returns : goal.returns
unfolding unread_from inner_of single_of words
returns c = record {
  no_such_day = refl;
  one_digit = refl;
  a_stamp = refl;
  planning = refl;
  small_planning = refl;
  small_drawer = refl;
  block = refl;
  no_name = refl;
  active_clock = refl;
  runs = refl;
  empty = refl;
  one_minute = refl;
  two_marks = refl;
  comment = refl;
}
