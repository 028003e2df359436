use Rattle.std.proofs.Common.{◌≡◌, ◌∙◌, suc, length, sym, arith, ap}
use Rattle.org_sum.specs.Sums.{own_at, sum_below}
use Rattle.org_sum.specs.Measures.{amount}
use Rattle.org_sum.proofs.Ranges.{own_total, sum_more}
use Rattle.org_sum.proofs.sums.sum_of_all.Goals as goal

pub overflow_add-sum : goal.overflow_add-sum
overflow_add-sum c =
    let t = own_total (amount c.args.measure.now) c.args.outline.now c.args.counted.now (suc c.loop-i.i) in
    omega (arith, c.amount_at-sum.ensures.value, t, c.loop-i.invariant, c.requires.fits)

pub loop-i-preserved : goal.loop-i-preserved
loop-i-preserved c =
    rw (c.amount_at-sum.ensures.value, c.loop-i.invariant) (sym (sum_more (own_at (amount c.args.measure.now) c.args.outline.now c.args.counted.now) c.loop-i.i))

pub returns-clause-value : goal.returns-clause-value
returns-clause-value c =
    let n : c.loop-i.i ≡ length c.args.outline.now = omega arith in
    c.loop-i.invariant ∙ ap (sum_below (own_at (amount c.args.measure.now) c.args.outline.now c.args.counted.now)) n

pub returns-clause-most : goal.returns-clause-most
returns-clause-most c =
    omega (arith, c.loop-i.invariant, own_total (amount c.args.measure.now) c.args.outline.now c.args.counted.now c.loop-i.i)
