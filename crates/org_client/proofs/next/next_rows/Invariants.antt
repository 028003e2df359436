use Rattle.std.proofs.Common.{◌≡◌, []}
use Rattle.std.specs.Prelude.{fold}
use Rattle.std.specs.List.{range_with_len}
use Rattle.org_client.specs.Next.{AreStampsOf, with_day}
use Rattle.org_client.proofs.next.next_rows.Given as goal

abbrev pub invariant-loop-ahead : goal.invariant-loop-ahead
invariant-loop-ahead l = record {
  value : l.next.items ≡ fold (with_day l.now l.agenda) [] (range_with_len l.agenda.first l.ahead);
  known : AreStampsOf l.stamps l.next.items;
}
