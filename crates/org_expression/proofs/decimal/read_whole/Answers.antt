use Rattle.std.proofs.Common.{◌^◌, arith, refl}
use Rattle.std.proofs.lemmas.List.{drop_more}
use Rattle.org_expression.proofs.Digits.{whole_step, now_fits, room}
use Rattle.org_expression.proofs.decimal.read_whole.Goals as goal

pub loop-digit-init : goal.loop-digit-init
loop-digit-init c = record { digits = c.requires.digits; bound = room _ c.requires.has_room; told = refl }

pub overflow_mul-n : goal.overflow_mul-n
overflow_mul-n c =
    let e = now_fits c.loop-digit.n _ (10 ^ 18) c.loop-digit.invariant.bound in
    omega (arith, e)

pub overflow_add-n : goal.overflow_add-n
overflow_add-n c =
    let e = now_fits c.loop-digit.n _ (10 ^ 18) c.loop-digit.invariant.bound in
    omega (arith, e)

pub loop-digit-preserved : goal.loop-digit-preserved
loop-digit-preserved c =
    let inv = c.loop-digit.invariant in
    let s = whole_step c.loop-digit.n _ _ _ _ (10 ^ 18) (drop_more c.args.digits.now c.loop-digit.digit-index 0 (omega arith)) inv.digits inv.bound inv.told in
    record { digits = s.0; bound = s.1; told = s.2 }
