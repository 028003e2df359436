-- The flags so far, with those of the entries that are left.
use Rattle.std.proofs.Common.{◌≡◌, ◌++◌, drop}
use Rattle.org_client.specs.LogRows.{shown_from}
use Rattle.org_client.proofs.logged.shown_flags.Given as goal

abbrev pub invariant-loop-place : goal.invariant-loop-place
invariant-loop-place l =
    l.shown.items ++ shown_from l.inherit.entries l.place (drop l.place l.inherit.entries) ≡ shown_from l.inherit.entries 0 l.inherit.entries
