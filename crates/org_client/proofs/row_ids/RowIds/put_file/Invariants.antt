-- The sections so far got their sums.
use Rattle.std.proofs.Common.{◌≡◌, take}
use Rattle.org_client.specs.RowIds.{PutsSums}
use Rattle.org_client.proofs.row_ids.RowIds.put_file.Given as goal

abbrev pub invariant-loop-section : goal.invariant-loop-section
invariant-loop-section g l = record {
  sums : PutsSums l.fn.self l.self l.file l.outline l.place (take l.section-index l.sections);
  length : l.self.length ≡ l.fn.self.length;
}
