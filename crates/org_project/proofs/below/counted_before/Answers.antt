use Rattle.std.proofs.Common.{◌≡◌, suc, length, sym, ◌∙◌, arith}
use Rattle.std.proofs.lemmas.List.FromFn.{map-range_with_len_more}
use Rattle.org_sum.specs.Sums.{own_at, sum_below}
use Rattle.org_sum.proofs.Ranges.{sum_more}
use Rattle.org_project.proofs.BelowLemmas.{at_most}
use Rattle.org_project.specs.Below.{one}
use Rattle.org_project.proofs.below.counted_before.Goals as goal

pub overflow_add-sum : goal.overflow_add-sum
overflow_add-sum c =
    let t = at_most c.args.outline.now c.args.counted.now (suc c.loop-i.i) in
    omega (arith, c.one_at-sum.ensures.value, t, c.loop-i.invariant.sum)

pub loop-i-preserved : goal.loop-i-preserved
loop-i-preserved c =
    let w = own_at one c.args.outline.now c.args.counted.now in
    record {
      sum = rw (c.one_at-sum.ensures.value, c.loop-i.invariant.sum) (sym (sum_more w c.loop-i.i));
      before = c.in_ok-push.ensures.items ∙ (rw (c.loop-i.invariant.before, c.loop-i.invariant.sum) (sym (map-range_with_len_more (sum_below w) 0 c.loop-i.i c.loop-i.i (omega arith))));
    }

pub returns : goal.returns
returns c =
    record {
      value =
          let w = own_at one c.args.outline.now c.args.counted.now in
          let n : c.loop-i.i ≡ length c.args.outline.now = omega arith in
          c.in_ok-push-2.ensures.items
          ∙ (rw (c.loop-i.invariant.before, c.loop-i.invariant.sum, n) (sym (map-range_with_len_more (sum_below w) 0 (length c.args.outline.now) (length c.args.outline.now) (omega arith))));
    }
