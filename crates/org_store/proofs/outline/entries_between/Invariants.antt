use Rattle.std.proofs.Common.{◌≡◌}
use Rattle.std.specs.List.{between}
use Rattle.org_store.specs.Sections.{entries_in}
use Rattle.org_store.proofs.outline.entries_between.Given as goal

abbrev pub invariant-loop-place : goal.invariant-loop-place
invariant-loop-place l = l.entries ≡ entries_in (between l.start l.place l.list)
