use Rattle.std.proofs.Common.{refl}
use Rattle.org_stamp.specs.Inner.{inner_of}
use Rattle.org_stamp.specs.Line.{stamps_from}
use Rattle.org_stamp.specs.Read.{single_of}
use Rattle.org_stamp.specs.Word.{words}
use Rattle.org_entry.proofs.laws.examples_hold.Goals as goal

pub returns : goal.returns
unfolding inner_of single_of stamps_from words
returns c = refl
