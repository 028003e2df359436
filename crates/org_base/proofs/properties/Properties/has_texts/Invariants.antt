-- All so far have their texts here: what is left decides.
use Rattle.std.proofs.Common.{◌≡◌, drop}
use Rattle.org_base.specs.Properties.{has_texts}
use Rattle.org_base.proofs.properties.Properties.has_texts.Given as goal

abbrev pub invariant-loop-place : goal.invariant-loop-place
invariant-loop-place l = has_texts l.self (drop l.place l.other) ≡ has_texts l.self l.other
