-- The flags so far, with those of the entries that are left.
use Rattle.std.proofs.Common.{◌≡◌, ◌++◌, drop}
use Rattle.org_project.specs.Flags.{flags_from}
use Rattle.org_project.proofs.entry_flags.flags.Given as goal

abbrev pub invariant-loop-place : goal.invariant-loop-place
invariant-loop-place l =
    l.flags.items ++ flags_from l.flag l.inherit l.place (drop l.place l.inherit.entries) ≡ flags_from l.flag l.inherit 0 l.inherit.entries
