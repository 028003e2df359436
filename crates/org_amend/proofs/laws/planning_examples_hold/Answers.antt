use lib.Utf8.{encode}
use Rattle.std.proofs.Common.{refl}
use Rattle.std.specs.Str.{chars, is_utf8}
use Rattle.org_amend.specs.Planning.{dated_draft, ends_like, is_left, is_plain, is_said, left_line, says, says_under, stays, undated_line, with_stamp, without_pairs}
use Rattle.org_amend.specs.Typed.{times_of, typed_date}
use Rattle.org_stamp.specs.Inner.{inner_of}
use Rattle.org_stamp.specs.Pair.{pairs_from}
use Rattle.org_stamp.specs.Read.{single_of}
use Rattle.org_stamp.specs.Word.{words}
use Rattle.org_amend.proofs.laws.planning_examples_hold.Goals as goal

pub returns : goal.returns
unfolding chars dated_draft encode ends_like inner_of is_left is_plain is_said is_utf8 left_line pairs_from says says_under single_of stays times_of typed_date undated_line with_stamp without_pairs words
returns c = record {
  new_line = refl;
  in_place = refl;
  whole_range = refl;
  last_of_two = refl;
  in_front = refl;
  brings_other = refl;
  line_goes = refl;
  all_go = refl;
  others_stay = refl;
  text_stays = refl;
  empty_stays = refl;
  word_stays = refl;
  no_heading = refl;
  no_lost_drawer = refl;
  spanned = λ _. refl;
  timed = λ _. refl;
  no_time = λ _. refl;
}
