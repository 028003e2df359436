use Rattle.std.proofs.Common.{◌≡◌, ◌∙◌, refl, sym, true≢false, arith, pos, rules}
use Rattle.std.proofs.lemmas.Int.{ints}
use Rattle.jiff_core.proofs.SignedLemmas.{signed_arith}
use Rattle.org_cal.proofs.DayLemmas.{of_number, of_parts, from_first}
use Rattle.org_cal.proofs.day.Day.of.Goals as goal

pub returns-in-Some-clause-value : goal.returns-in-Some-clause-value
returns-in-Some-clause-value c =
    let parts = c.in-Ok.ensures.value in
    let year : c.in-Ok.date.year ≡ pos c.args.year = parts.0 ∙ omega (arith, ints) in
    let month : c.in-Ok.date.month ≡ c.args.month = omega (arith, ints, parts.1) in
    let day : c.in-Ok.date.day ≡ c.args.day = omega (arith, ints, parts.2) in
    let number = sym c.in-Some.ensures.value in (
      of_parts c.in-Ok.date c.args.year c.args.month c.args.day c.in-Some.found number year month day (omega (arith, signed_arith, c.in-Some.ensures.succeeds.0 refl, number)),
      of_number c.in-Ok.date c.args.year c.args.month c.args.day c.in-Some.found number year month day,
    )

pub returns-in-None-clause-date : goal.returns-in-None-clause-date
returns-in-None-clause-date c =
    let parts = c.in-Ok.ensures.value in
    let year : c.in-Ok.date.year ≡ pos c.args.year = parts.0 ∙ omega (arith, ints) in
    (refl, λ h. true≢false (sym (c.in-None.ensures.succeeds.1 (from_first c.in-Ok.date c.args.year year h.0.0))))

pub returns-then-year-lt1-clause-date : goal.returns-then-year-lt1-clause-date
returns-then-year-lt1-clause-date c = search rules
