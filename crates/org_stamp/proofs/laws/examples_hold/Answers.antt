use Rattle.std.proofs.Common.{refl}
use Rattle.std.specs.Fmt.{digits}
use Rattle.org_stamp.specs.Inner.{inner_of}
use Rattle.org_stamp.specs.Line.{stamps_from}
use Rattle.org_stamp.specs.Read.{single_of}
use Rattle.org_stamp.specs.Word.{words}
use Rattle.org_stamp.proofs.laws.examples_hold.Goals as goal

pub returns : goal.returns
unfolding digits inner_of single_of stamps_from words
returns c = record { one_range = refl; other_brackets = refl; no_thirtieth = refl; time_first = refl }
