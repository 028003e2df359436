use Rattle.std.proofs.Common.{refl}
use Rattle.org_match.proofs.laws.examples_hold.Goals as goal

pub returns : goal.returns
unfolding lib.Utf8.encode
returns c = record {
  spelled = refl;
  of_a = λ moment. refl;
  of_b = λ moment. refl;
  of_both = λ moment. refl;
  open_has_a_keyword = λ moment. refl;
  no_time_is_false = λ op minute. refl;
  with_pattern = λ moment pattern text. refl;
  without_pattern = λ moment pattern text. refl;
}
