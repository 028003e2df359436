use Rattle.std.proofs.Common.{refl}
use Rattle.jiff_core.specs.Calendar.{day_count, days_of_months, days_of_years}
use Rattle.org_cal.proofs.laws.limits_are_named.Goals as goal

pub returns : goal.returns
unfolding day_count days_of_months days_of_years
returns c = record { day = refl; date = refl; month = refl; minutes = refl; all = refl }
