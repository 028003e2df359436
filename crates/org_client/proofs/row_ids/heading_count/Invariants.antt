-- So many of the entries so far have headings.
use Rattle.std.proofs.Common.{◌≡◌, ◌≤◌, length, take}
use Rattle.org_client.specs.HeadingNames.{id_headings}
use Rattle.org_client.proofs.row_ids.heading_count.Given as goal

abbrev pub invariant-loop-place : goal.invariant-loop-place
invariant-loop-place l = record {
  few : l.count ≤ l.place;
  count : l.count ≡ length (id_headings (take l.place l.outline));
}
