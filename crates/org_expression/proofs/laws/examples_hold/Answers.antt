use Rattle.std.proofs.Common.{refl}
use Rattle.org_expression.specs.Decimal.{read_decimals}
use Rattle.org_stamp.specs.Inner.{inner_of}
use Rattle.org_stamp.specs.Read.{single_of}
use Rattle.org_stamp.specs.Word.{words}
use Rattle.org_expression.proofs.laws.examples_hold.Goals as goal

pub returns : goal.returns
unfolding inner_of read_decimals single_of words
returns c = record { less = refl; text_follows = refl }
