-- The texts so far.
use Rattle.std.proofs.Common.{◌≡◌, take}
use Rattle.org_ical.specs.Results.{bytes_of}
use Rattle.org_client.proofs.heading_component.copies.Given as goal

abbrev pub invariant-loop-place : goal.invariant-loop-place
invariant-loop-place l = bytes_of l.copies.items ≡ take l.place l.texts
