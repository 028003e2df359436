use Rattle.std.proofs.Common.{◌≡◌, true, false, take, ap, ◌∙◌, arith}
use Rattle.org_expression.proofs.Digits.{front_is, front_all, number_is}
use Rattle.org_expression.specs.Decimal.{front_digits, read_on, read_decimals}
use Rattle.org_expression.proofs.decimal.number.Goals as goal

pub read_whole-requires-clause-digits : goal.read_whole-requires-clause-digits
read_whole-requires-clause-digits c = rw (c.digit_count-count.ensures.value, front_is) (front_all c.args.whole.now)

pub returns-then-is_negative : goal.returns-then-is_negative
returns-then-is_negative c =
    let front : take c.digit_count-count.result c.args.whole.now ≡ front_digits c.args.whole.now = rw c.digit_count-count.ensures.value (front_is c.args.whole.now) in
    let n = c.read_decimals-n.ensures.value ∙ ap (λ q. read_decimals q 9 c.args.fraction.now) (c.read_whole.ensures.value ∙ ap (read_on 0) front) in
    record { value = rw c.if-is_negative.true (number_is true c.args.whole.now c.args.fraction.now _ _ c.digit_count-count.ensures.value (λ e. omega (arith, e)) (omega arith) n) }

pub returns-else-is_negative : goal.returns-else-is_negative
returns-else-is_negative c =
    let front : take c.digit_count-count.result c.args.whole.now ≡ front_digits c.args.whole.now = rw c.digit_count-count.ensures.value (front_is c.args.whole.now) in
    let n = c.read_decimals-n.ensures.value ∙ ap (λ q. read_decimals q 9 c.args.fraction.now) (c.read_whole.ensures.value ∙ ap (read_on 0) front) in
    record { value = rw c.if-is_negative.false (number_is false c.args.whole.now c.args.fraction.now _ _ c.digit_count-count.ensures.value (λ e. omega (arith, e)) (omega arith) n) }
