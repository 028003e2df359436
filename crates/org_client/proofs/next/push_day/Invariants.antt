use Rattle.std.proofs.Common.{◌≡◌, take}
use Rattle.std.specs.Prelude.{fold}
use Rattle.org_client.specs.Next.{AreStampsOf, with_row}
use Rattle.org_client.proofs.next.push_day.Given as goal

abbrev pub invariant-loop-row : goal.invariant-loop-row
invariant-loop-row l = record {
  value : l.next.items ≡ fold (with_row l.now l.day) l.fn.next.items (take l.row-index l.rows);
  known : AreStampsOf l.stamps l.next.items;
}
