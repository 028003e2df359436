use Rattle.std.proofs.Common.{◌≡◌, pos, ◌+ℤ◌, ◌≤◌, arith}
use Rattle.std.proofs.lemmas.Int.{ints}
use Rattle.jiff_core.specs.Date.{epoch_day}
use Rattle.org_cal.proofs.DayLemmas.{year_of_number}
use Rattle.org_cal.proofs.day.Day.to_plain.Goals as goal

pub returns : goal.returns
returns c =
    let day = rw c.unwrap.ensures at c.from_unix_epoch_day.ensures.value in
    let number : epoch_day c.unwrap.result +ℤ pos 719_163 ≡ pos c.args.self = omega (arith, ints, day, c.self.invariant, c.self.view_is) in
    let first : 1 ≤ c.args.self = omega (arith, c.self.invariant, c.self.view_is) in
    record { number = number; year = year_of_number c.unwrap.result c.args.self number first; first = first }
