use Rattle.std.proofs.Common.{refl}
use Rattle.orgq_files.proofs.laws.examples_hold.Goals as goal

pub returns : goal.returns
returns c = record { own_keywords = refl; named_in_a_block = refl; none_named = refl; none_named_before = refl; color_named_before = refl }
