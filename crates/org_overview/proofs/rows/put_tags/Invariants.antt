use Rattle.std.proofs.Common.{◌≡◌}
use Rattle.org_overview.specs.Marks.{shown_mark}
use Rattle.org_overview.proofs.rows.put_tags.Given as goal

abbrev pub invariant-loop-place : goal.invariant-loop-place
invariant-loop-place l = shown_mark l.shown ≡ shown_mark l.fn.shown
