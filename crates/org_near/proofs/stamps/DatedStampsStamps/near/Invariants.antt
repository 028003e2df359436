use Rattle.std.proofs.Common.{◌≡◌, ◌++◌, drop, take}
use Rattle.org_agenda.specs.Sources.{sources_of}
use Rattle.org_index.specs.Ticks.{examined}
use Rattle.org_near.specs.Near.{asked_of}
use Rattle.org_near.specs.Stamps.{near_in_all}
use Rattle.org_near.proofs.stamps.DatedStampsStamps.near.Given as goal

abbrev pub invariant-loop-file : goal.invariant-loop-file
invariant-loop-file l = record {
  found : l.near.found.items ++ asked_of l.asked (sources_of l.file (drop l.file l.self.inherits.now)) ≡ asked_of l.asked (sources_of 0 l.self.inherits.now);
  counts : l.meter ≡ examined (near_in_all l.as_of l.fn.from l.fn.to (take l.file l.self.files.now)) l.fn.meter;
}
