-- The names so far are found.
use Rattle.std.proofs.Common.{map, take}
use Rattle.std.specs.Prelude.{Some}
use Rattle.org_base.specs.Found.{AreFound}
use Rattle.org_base.proofs.name_set.places_of.Given as goal

abbrev pub invariant-loop-place : goal.invariant-loop-place
invariant-loop-place l = AreFound (Some l.places.entries) (map (λ v. v.items) (take l.place l.names))
