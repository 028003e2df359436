use Rattle.std.proofs.Common.{refl}
use Rattle.org_stamp.specs.Pair.{pairs_from}
use Rattle.org_inherit.proofs.laws.examples_hold.Goals as goal

pub returns : goal.returns
unfolding pairs_from
returns c = record { capitals = refl; small_letters = refl; own_category = refl; category_of_the_file = refl; drawer_first = refl }
