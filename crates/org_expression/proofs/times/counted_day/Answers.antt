use Rattle.std.proofs.Common.{◌∙◌, ap, take, drop}
use Rattle.org_expression.proofs.Digits.{front_is, front_all}
use Rattle.org_expression.proofs.Moved.{counted_is}
use Rattle.org_expression.proofs.times.counted_day.Goals as goal

pub read_whole-requires-clause-digits : goal.read_whole-requires-clause-digits
read_whole-requires-clause-digits c = rw (c.split_at.ensures.front, c.digit_count.ensures.value, front_is) (front_all c.args.text.now)

pub returns : goal.returns
returns c =
    let front = c.split_at.ensures.front ∙ ap (λ k. take k c.args.text.now) c.digit_count.ensures.value ∙ front_is c.args.text.now in
    let back = c.split_at.ensures.back ∙ ap (λ k. drop k c.args.text.now) c.digit_count.ensures.value in
    record {
      value = c.day_moved.ensures.value
          ∙ counted_is c.args.today c.args.is_back c.args.text.now _ _ c.read_whole.result c.in_ok-unit.unit front back
          c.if-is_empty.ensures c.if-digits-gt4.false c.read_whole.ensures.value c.in_ok-unit.ensures.value;
    }
