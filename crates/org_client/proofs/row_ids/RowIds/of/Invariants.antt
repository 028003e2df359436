-- The files so far have their sums, and so many headings.
use Rattle.std.proofs.Common.{◌≡◌, ◌-◌, ◌^◌, take}
use Rattle.std.specs.Prelude.{min}
use Rattle.org_client.specs.RowIds.{heading_count}
use Rattle.org_client.proofs.AskedLemmas.{HaveFirst}
use Rattle.org_client.proofs.row_ids.RowIds.of.Given as goal

abbrev pub invariant-loop-place : goal.invariant-loop-place
invariant-loop-place g l = record {
  sums : HaveFirst l.file_set.files l.inherits l.headings l.place l.ids;
  count : l.count ≡ min (heading_count (take l.place l.inherits)) (2 ^ 64 - 1);
}
