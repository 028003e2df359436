-- So many are there, all empty.
use Rattle.std.proofs.Common.{◌≡◌, map, length, []}
use Rattle.std.specs.Prelude.{replicate}
use Rattle.org_client.proofs.asked.Asked.new.Given as goal

abbrev pub invariant-loop-file : goal.invariant-loop-file
invariant-loop-file l = record {
  count : length l.lists.items ≡ l._file;
  empty : map (λ v. v.items) l.lists.items ≡ replicate l._file [];
}
