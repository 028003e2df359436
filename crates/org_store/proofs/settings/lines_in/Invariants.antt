-- The setting lines of the sections up to a place.
use Rattle.std.proofs.Common.{◌≡◌, ◌-◌, ◌≤◌}
use Rattle.org_store.specs.File.{lines_between}
use Rattle.org_store.proofs.settings.lines_in.Given as goal

abbrev pub invariant-loop-place : goal.invariant-loop-place
invariant-loop-place g l = record {
  low : l.from ≤ l.next;
  high : l.next ≤ l.to;
  so_far : l.lines ≡ lines_between (g.T.Text.content l.text) l.from l.next;
}

abbrev pub decreases-loop-place : goal.decreases-loop-place
decreases-loop-place g l = l.to - l.next
