use Rattle.std.proofs.Common.{arith, rules, ℕ}
use Rattle.std.specs.Prelude.{nat_le}
use Rattle.std.proofs.lemmas.List.Sorted.{IsPartitionPoint-from_clause}
use Rattle.org_client.proofs.LinePlaceLemmas.{counted, gt_from, le_from, parted}
use Rattle.org_client.proofs.line_starts.count_up_to.Goals as goal

pub returns-clause-up_to : goal.returns-clause-up_to
returns-clause-up_to c =
    let at = c.args.at in
    let point = IsPartitionPoint-from_clause (λ (x : ℕ). nat_le x at) _ _ c.partition_point.ensures.partitioned (parted c.args.starts.now at c.requires.order) (λ a r q k. search rules) in
    record {
      within = c.partition_point.ensures.bound;
      earlier = λ i d lt. le_from _ at (point.0 i d (omega arith) lt);
      later = λ i d le lt. gt_from _ at (point.1 i d le lt);
    }

pub returns-clause-value : goal.returns-clause-value
returns-clause-value c = counted c.args.starts.now c.args.at c.partition_point.result (returns-clause-up_to c)
