use Rattle.std.proofs.Common.{refl}
use Rattle.org_amend.proofs.laws.part_examples_hold.Goals as goal

pub returns : goal.returns
returns c = record {
  tag_stays = refl;
  tag_goes_and_comes = refl;
  cookie_in_place = refl;
  cookie_behind_keyword = refl;
  cookie_before_words = refl;
  cookie_goes = refl;
  keyword_goes = refl;
  stars_alone = refl;
  at_least_one = refl;
  no_further = refl;
  tail_returns = refl;
  in_place = refl;
  comes_last = refl;
  twice = refl;
  appended = refl;
  of_end = refl;
  another = refl;
  unended = refl;
}
