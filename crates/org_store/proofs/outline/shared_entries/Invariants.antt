-- The entries so far with those that are left are all.
use Rattle.std.proofs.Common.{◌≡◌, ◌++◌}
use Rattle.org_store.specs.Sections.{entries_in}
use Rattle.org_store.proofs.outline.shared_entries.Given as goal

abbrev pub invariant-loop-section : goal.invariant-loop-section
invariant-loop-section l = l.entries ++ entries_in l.section-iterator ≡ entries_in l.list
