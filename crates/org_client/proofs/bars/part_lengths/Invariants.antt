use Rattle.std.proofs.Common.{◌≡◌, ◌≤◌, ◌++◌, drop}
use Rattle.org_client.specs.Bars.{lengths_from, part_lengths, share_of}
use Rattle.org_client.proofs.bars.part_lengths.Given as goal

abbrev pub invariant-loop-sum : goal.invariant-loop-sum
invariant-loop-sum l = record {
  so_far : l.so_far ≤ l.most;
  end : l.end ≡ share_of l.so_far l.most l.columns;
  lengths : l.lengths.items ++ lengths_from l.so_far l.most l.columns (drop l.sum-index l.sums) ≡ part_lengths l.most l.columns l.sums;
}
