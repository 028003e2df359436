-- No fewer are enough.
use Rattle.std.proofs.Common.{◌≡◌, ◌-◌, ◌^◌}
use Rattle.org_ids.specs.Letters.{id_length, least_enough}
use Rattle.org_ids.proofs.letters.id_length.Given as goal

abbrev pub invariant-loop-length : goal.invariant-loop-length
invariant-loop-length l = record {
  enough : l.enough ≡ 32 ^ l.length;
  least : least_enough l.wanted l.length (12 - l.length) ≡ id_length l.count;
}
