use Rattle.std.proofs.Common.{arith, rules}
use Rattle.std.specs.Prelude.{nat_lt}
use Rattle.std.proofs.lemmas.List.Sorted.{IsPartitionPoint-from_clause}
use Rattle.org_clocktable.specs.declared.running_sums.RunningSum.{RunningSum}
use Rattle.org_clocktable.proofs.RunningSumLemmas.{ge_from, lt_from, parted}
use Rattle.org_clocktable.proofs.running_sums.count_before.Goals as goal

pub returns : goal.returns
returns c =
    let x = c.args.place in
    let point = IsPartitionPoint-from_clause (λ (m : RunningSum). nat_lt m.place x) _ _ c.partition_point.ensures.partitioned (parted c.args.running.now x c.requires.order) (λ a r q k. search rules) in
    record {
      within = c.partition_point.ensures.bound;
      earlier = λ i d lt. lt_from _ x (point.0 i d (omega arith) lt);
      later = λ i d le lt. ge_from _ x (point.1 i d le lt);
    }
