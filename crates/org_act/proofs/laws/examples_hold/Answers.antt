use lib.Utf8.{encode}
use Rattle.std.proofs.Common.{refl}
use Rattle.std.specs.Str.{chars, is_utf8}
use Rattle.org_complete.specs.Completion.{completed, completion_part}
use Rattle.org_stamp.specs.Pair.{pairs_from}
use Rattle.org_amend.specs.Cancelled.{cancelled_part}
use Rattle.org_amend.specs.Clocks.{first_running}
use Rattle.org_amend.specs.Places.{drawer_from, front_end}
use Rattle.org_act.proofs.laws.examples_hold.Goals as goal

pub returns : goal.returns
unfolding cancelled_part chars completed completion_part drawer_from encode first_running front_end is_utf8 pairs_from
returns c = record {
  plain = λ _. refl;
  beside = λ _. refl;
  behind = λ _. refl;
  of_sequence = refl;
  of_first = refl;
  none_done = refl;
  of_line = refl;
  begun = λ _. refl;
  begun_last = λ _. refl;
  begun_first = λ _. refl;
  returns_kept = λ _. refl;
  in_block = refl;
  begun_twice = λ _ _. refl;
  none_ends = λ _. refl;
  emptied = λ _. refl;
  one_of_two = λ _. refl;
}
