use lib.Utf8.{encode}
use Rattle.std.proofs.Common.{refl}
use Rattle.std.specs.Str.{chars, is_utf8}
use Rattle.org_amend.specs.Places.{drawer_from}
use Rattle.org_stamp.specs.Inner.{inner_of}
use Rattle.org_stamp.specs.Pair.{pairs_from}
use Rattle.org_stamp.specs.Read.{single_of}
use Rattle.org_stamp.specs.Word.{words}
use Rattle.org_amend.proofs.laws.cancel_examples_hold.Goals as goal

pub returns : goal.returns
unfolding chars drawer_from encode inner_of is_utf8 pairs_from single_of words
returns c = record {
  goes_whole = refl;
  planning_behind = refl;
  planning_before = refl;
  properties_behind = refl;
  properties_around = refl;
  drawer_of_body = refl;
  unended_of_body = refl;
  colon_in_name = refl;
}
