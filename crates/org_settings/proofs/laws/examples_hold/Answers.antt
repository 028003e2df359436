use Rattle.std.proofs.Common.{refl}
use Rattle.org_settings.proofs.laws.examples_hold.Goals as goal

pub returns : goal.returns
returns c = record { last_number = refl; too_great = refl; first_category = refl; appended_value = refl }
