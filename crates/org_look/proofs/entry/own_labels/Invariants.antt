use Rattle.std.proofs.Common.{◌≡◌, ◌++◌, drop, map, string_bytes}
use Rattle.org_look.specs.Entries.{own_labels}
use Rattle.org_look.proofs.entry.own_labels.Given as goal

abbrev pub invariant-loop-entry : goal.invariant-loop-entry
invariant-loop-entry l = map string_bytes l.labels.items ++ own_labels (drop l.entry-index l.entries) ≡ own_labels l.entries
