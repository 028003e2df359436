use Rattle.org_cal.proofs.WeekLemmas.{found_week}
use Rattle.org_cal.proofs.day.Day.iso_week.Goals as goal

pub returns : goal.returns
returns c =
    let found = c.from_date-found.result in
    let all = found_week found c.to_plain.result c.args.self c.unsigned_abs.result c.from_date-found.ensures c.to_plain.ensures.number c.to_plain.ensures.first c.unsigned_abs.ensures.value in
    record { value = cc; range = (found.week_in.0, all.2) }
