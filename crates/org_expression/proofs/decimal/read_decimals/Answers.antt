use Rattle.std.proofs.Common.{◌≡◌, ◌+◌, ◌-◌, ◌^◌, arith, sym, ◌∙◌}
use Rattle.org_expression.proofs.Digits.{decimal_step, decimal_end, now_fits}
use Rattle.org_expression.proofs.decimal.read_decimals.Goals as goal

pub overflow_mul-n : goal.overflow_mul-n
overflow_mul-n c =
    let e = now_fits c.loop-place.n _ (10 ^ 27) c.loop-place.invariant.bound in
    omega (arith, e)

pub overflow_add-n : goal.overflow_add-n
overflow_add-n c =
    let e = now_fits c.loop-place.n _ (10 ^ 27) c.loop-place.invariant.bound in
    omega (arith, e)

pub loop-place-preserved : goal.loop-place-preserved
loop-place-preserved c =
    let inv = c.loop-place.invariant in
    let small = rw c.front_value.ensures.value at c.front_value.ensures.fits in
    let s = decimal_step c.loop-place.n (9 - (c.loop-place.place + 1)) (9 - c.loop-place.place) c.loop-place.rest.now _ (10 ^ 27) (omega arith) small inv.bound inv.told in
    record {
      bound = rw c.front_value.ensures.value s.0;
      told = rw (c.front_value.ensures.value, c.behind-rest.ensures.value) s.1;
    }

pub returns-clause-value : goal.returns-clause-value
returns-clause-value c =
    let last : 9 - c.loop-place.place ≡ 0 = omega arith in
    sym (decimal_end c.loop-place.n c.loop-place.rest.now) ∙ (rw last at c.loop-place.invariant.told)
