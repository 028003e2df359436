use Rattle.std.proofs.Common.{◌≡◌, ◌++◌, drop}
use Rattle.std.specs.List.{flat_map}
use Rattle.org_near.specs.Near.{asked_in}
use Rattle.org_near.proofs.near.NearStamps.push_file.Given as goal

abbrev pub invariant-loop-heading : goal.invariant-loop-heading
invariant-loop-heading l =
    l.self.found.items ++ flat_map (asked_in l.asked l.inherit l.file) (drop l.heading-index l.places)
    ≡ l.fn.self.found.items ++ flat_map (asked_in l.asked l.inherit l.file) l.places
