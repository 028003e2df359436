use Rattle.std.proofs.Common.{refl}
use Rattle.std.specs.Str.{chars, is_utf8}
use Rattle.caseless.proofs.Computing.{caseless}
use Rattle.memchr.proofs.Computing.{computing}
use Rattle.org_search.proofs.laws.examples_hold.Goals as goal

pub returns : goal.returns
unfolding caseless computing is_utf8 chars lib.Utf8.encode
returns c = record {
  sharp_s = refl;
  dotted_i = refl;
  final_sigma = refl;
  kelvin = refl;
  longer_word = refl;
  shorter_text = refl;
  slashed = refl;
  slashes_alone = refl;
  one_slash = refl;
  ending = refl;
  absent = refl;
  minus_alone = refl;
  line_feed = refl;
  no_word = refl;
}
