use Rattle.std.proofs.Common.{refl}
use Rattle.org_overview.proofs.laws.examples_hold.Goals as goal

pub returns : goal.returns
returns c = record { whole = refl; timed = refl; late = refl; soon = refl; single = refl; range = refl; late_by = refl; no_start = refl; byte = refl; known = refl; new = refl; midnight = refl; to_midnight = refl; before = refl; nothing = refl; something = refl; eight_weeks = refl; first_days = refl }
