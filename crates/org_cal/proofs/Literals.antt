-- The definitions on literals.
use Rattle.std.proofs.Common.{◌≡◌, refl, codes}
use Rattle.std.specs.Prelude.{Some, None}
use Rattle.org_cal.specs.Days.{day_number}
use Rattle.org_cal.specs.Texts.{time_of, date_of}

nine : time_of (codes "9:05") ≡ Some 545
nine = refl

none : time_of (codes "24:00") ≡ None
none = refl

date : date_of (codes "2024-02-28") ≡ Some (day_number 2024 2 28)
date = refl

no_date : date_of (codes "2024-02-30") ≡ None
no_date = refl
