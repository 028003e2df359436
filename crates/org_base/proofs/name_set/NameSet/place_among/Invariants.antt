-- No name so far is the one.
use Rattle.std.proofs.Common.{◌≤◌}
use Rattle.std.specs.Prelude.{bytes_eq}
use Rattle.std.specs.List.{position_or_len}
use Rattle.org_base.proofs.name_set.NameSet.place_among.Given as goal

abbrev pub invariant-loop-place : goal.invariant-loop-place
invariant-loop-place l = l.place ≤ position_or_len (bytes_eq l.name) l.self
