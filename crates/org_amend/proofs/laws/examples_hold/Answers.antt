use Rattle.std.proofs.Common.{refl}
use Rattle.org_amend.specs.Places.{drawer_from, front_end}
use Rattle.org_amend.proofs.laws.examples_hold.Goals as goal

pub returns : goal.returns
unfolding drawer_from front_end
returns c = record {
  front = refl;
  all_front = refl;
  drawer = refl;
  unended = refl;
  in_block = refl;
  indented = refl;
  line_feed = refl;
  carriage_return = refl;
  unended_heading = refl;
  emptied = λ _. refl;
  more_follows = λ _. refl;
  behind_more = λ _. refl;
}
