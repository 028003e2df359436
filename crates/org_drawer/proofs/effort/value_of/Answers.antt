use Rattle.std.proofs.Common.{arith}
use Rattle.org_drawer.proofs.EffortLemmas.{next_digit, below_million}
use Rattle.org_drawer.proofs.effort.value_of.Goals as goal

pub overflow_mul-n : goal.overflow_mul-n
overflow_mul-n c = omega (arith, c.loop-digit.invariant, below_million c.args.digits.now c.loop-digit.digit-index c.requires.digits c.requires.at_most)

pub overflow_sub-n : goal.overflow_sub-n
overflow_sub-n c =
    let next = next_digit c.args.digits.now c.loop-digit.digit-index c.requires.digits (omega (arith, c.loop-digit-test.true, c.loop-digit.auto.digit-index-end)) in
    omega (arith, next.0)

pub overflow_add-n : goal.overflow_add-n
overflow_add-n c =
    let next = next_digit c.args.digits.now c.loop-digit.digit-index c.requires.digits (omega (arith, c.loop-digit-test.true, c.loop-digit.auto.digit-index-end)) in
    omega (arith, next.0, c.loop-digit.invariant, below_million c.args.digits.now c.loop-digit.digit-index c.requires.digits c.requires.at_most)

pub loop-digit-preserved : goal.loop-digit-preserved
loop-digit-preserved c =
    let next = next_digit c.args.digits.now c.loop-digit.digit-index c.requires.digits (omega (arith, c.loop-digit-test.true, c.loop-digit.auto.digit-index-end)) in
    omega (arith, next.1, c.loop-digit.invariant)
