use Rattle.org_cal.proofs.DayLemmas.{year_read, number_is, parts_only, parts_real}
use Rattle.org_cal.proofs.PartLemmas.{parts_are}
use Rattle.org_cal.proofs.day.Day.parts.Goals as goal

pub returns : goal.returns
returns c =
    let date = c.to_plain-date.result in
    let first = c.to_plain-date.ensures.year in
    let year = year_read date c.unsigned_abs.result first c.unsigned_abs.ensures.value in
    let real = parts_real date c.unsigned_abs.result year first in
    let number = number_is date c.unsigned_abs.result c.args.self c.to_plain-date.ensures.number year in
    let parts = parts_are c.args.self c.unsigned_abs.result date.month date.day real number in
    record {
      value = cc;
      real = real;
      number = number;
      only = λ y m d h is. let same = parts_only date c.args.self y m d c.to_plain-date.ensures.number h is in cc;
    }
