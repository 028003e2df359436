-- The power is one of 32, from the first to the eleventh.
use Rattle.std.proofs.Common.{◌≤◌, ◌^◌, arith}
use Rattle.std.proofs.Math.Nat.{one-le-pow, pow-le-pow_right}
use Rattle.org_ids.proofs.letters.letter_at.Goals as goal

pub pow-requires : goal.pow-requires
pow-requires c =
    let few : c.saturating_sub-rest.result ≤ 11 = omega (arith, c.saturating_sub-rest.ensures) in
    let most : 32 ^ c.saturating_sub-rest.result ≤ 32 ^ 11 = pow-le-pow_right {n = 32} (omega arith) few in
    omega (arith, most)

pub nonzero_div-letter : goal.nonzero_div-letter
nonzero_div-letter c = rw c.pow.ensures (one-le-pow c.saturating_sub-rest.result 32 (omega arith))
