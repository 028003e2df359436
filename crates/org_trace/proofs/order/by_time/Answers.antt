use Rattle.std.proofs.Common.{rules}
use Rattle.std.proofs.lemmas.Fn.{always_returns_same}
use Rattle.std.proofs.lemmas.List.Sorted.{IsNonDecreasingBy-from_sort_by_key}
use Rattle.org_trace.specs.Order.{time_of}
use Rattle.org_trace.proofs.order.by_time.Goals as goal

pub returns : goal.returns
returns c = record {
  order = record {
    same = c.in_ok-sort_by_key.ensures.permutation;
    rise = IsNonDecreasingBy-from_sort_by_key time_of _ c.in_ok-sort_by_key.ensures.sorted (λ a r q k. search rules);
    stable = c.in_ok-sort_by_key.ensures.stable time_of (always_returns_same _ _ _ (λ a r q k. search rules));
  };
}
