use Rattle.std.proofs.Common.{◌≡◌, ◌<◌, ◌^◌, pos, ◌+ℤ◌, ◌-ℤ◌, to_z, of_z, w64, FitsSigned, true, false, arith}
use Rattle.std.proofs.lemmas.Int.{to_z-of_z}
use Rattle.jiff_core.proofs.SignedLemmas.{signed_arith, signed_casts}
use Rattle.org_expression.proofs.Moved.{moved_is}
use Rattle.org_expression.proofs.times.day_moved.Goals as goal

pub returns-then-is_back : goal.returns-then-is_back
returns-then-is_back c =
    let few : c.args.n < 10 ^ 18 = c.requires.at_most in
    let same : to_z w64 c.args.n ≡ pos c.args.n = omega (arith, signed_casts) in
    let fits : FitsSigned w64 (pos 0 -ℤ to_z w64 c.args.n) = omega (arith, signed_casts) in
    let less : to_z w64 (of_z w64 (pos 0 -ℤ to_z w64 c.args.n)) ≡ pos 0 -ℤ to_z w64 c.args.n = to_z-of_z w64 _ fits in
    let amount : to_z w64 (of_z w64 (pos 0 -ℤ to_z w64 c.args.n)) +ℤ pos c.args.n ≡ pos 0 = omega (arith, signed_arith, same, less) in
    record { value = rw c.if-is_back.true (moved_is true c.args.n c.args.unit c.args.day _ c.add_units.result (omega (arith, c.number-number.ensures), omega (arith, c.number-number.ensures)) amount c.add_units.ensures.some c.add_units.ensures.only) }

pub returns : goal.returns
returns c =
    let few : c.args.n < 10 ^ 18 = c.requires.at_most in
    let same : to_z w64 c.args.n ≡ pos c.args.n = omega (arith, signed_casts) in
    record { value = rw c.if-is_back.false (moved_is false c.args.n c.args.unit c.args.day _ c.add_units-2.result (omega (arith, c.number-number.ensures), omega (arith, c.number-number.ensures)) same c.add_units-2.ensures.some c.add_units-2.ensures.only) }
