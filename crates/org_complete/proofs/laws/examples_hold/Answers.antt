use Rattle.std.proofs.Common.{refl}
use Rattle.org_stamp.specs.Inner.{inner_of}
use Rattle.org_stamp.specs.Pair.{pairs_from}
use Rattle.org_stamp.specs.Read.{single_of}
use Rattle.org_stamp.specs.Word.{words}
use Rattle.org_complete.proofs.laws.examples_hold.Goals as goal

pub returns : goal.returns
unfolding inner_of pairs_from single_of words
returns c = record { hours_first = λ now. refl; behind_two_spaces = refl }
