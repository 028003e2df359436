-- The days so far with those that are left.
use Rattle.std.proofs.Common.{◌≡◌, ◌+◌, ◌++◌, ◌≤◌}
use Rattle.org_agenda.specs.Begins.{begin_days}
use Rattle.org_agenda.proofs.BeginLemmas.{Left}
use Rattle.org_agenda.proofs.begins.begin_days.Given as goal

abbrev pub invariant-loop-turn : goal.invariant-loop-turn
invariant-loop-turn l = record {
  told : l.days.items ++ Left l.profile l.source l.next l.end ≡ begin_days l.profile l.source l.fn.first l.count;
  late : l.fn.first + l._turn ≤ l.next;
  one : 1 ≤ l.next;
  most : l.next ≤ l.end;
}
