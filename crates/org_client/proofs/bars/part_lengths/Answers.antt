use Rattle.std.proofs.Common.{◌++◌, sym, ap, arith}
use Rattle.org_client.specs.Bars.{lengths_from}
use Rattle.org_client.proofs.BarLemmas.{none_of_nothing, share_grows}
use Rattle.org_client.proofs.bars.part_lengths.Goals as goal

pub loop-sum-init : goal.loop-sum-init
loop-sum-init c = record {
  so_far = omega arith;
  end = sym (none_of_nothing c.args.most c.args.columns);
  lengths = ap (λ xs. xs ++ lengths_from 0 c.args.most c.args.columns c.args.sums.now) c.in_ok-lengths.ensures.items;
}

pub overflow_sub-next : goal.overflow_sub-next
overflow_sub-next c =
    rw (c.loop-sum.invariant.end, c.share_of-next.ensures.value, c.from.ensures)
    (share_grows c.loop-sum.so_far c.min-so_far.result c.args.most c.args.columns (omega (arith, c.min-so_far.ensures, c.saturating_add.ensures, c.loop-sum.invariant.so_far)))
