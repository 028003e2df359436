use Rattle.std.proofs.Common.{refl}
use Rattle.org_cal.specs.Days.{day_number}
use Rattle.org_cal.proofs.PartLemmas.{number_holds, parts_are}
use Rattle.org_cal.proofs.laws.dates_have_numbers.Goals as goal

pub returns : goal.returns
returns c = λ y m d h.
    let parts = parts_are (day_number y m d) y m d h refl in
    (number_holds y m d h, parts.0, parts.1, parts.2)
