-- The properties of the lines so far, with what those that are left give, are those of all.
use Rattle.std.proofs.Common.{◌≡◌, drop}
use Rattle.std.specs.List.{filter_map}
use Rattle.org_base.specs.Properties.{with_all}
use Rattle.org_drawer.specs.Node.{given_of, drawer_of}
use Rattle.org_drawer.proofs.drawer.read_drawer.Given as goal

abbrev pub invariant-loop-place : goal.invariant-loop-place
invariant-loop-place l = with_all l.drawer (filter_map given_of (drop l.place l.lines)) ≡ drawer_of l.lines
