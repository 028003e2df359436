-- The titles so far, and those of the places that are left, are all.
use Rattle.std.proofs.Common.{◌≡◌, ◌++◌, drop}
use Rattle.org_client.specs.HeadingMembers.{titles_at}
use Rattle.org_client.proofs.details.titles_at.Given as goal

abbrev pub invariant-loop-place : goal.invariant-loop-place
invariant-loop-place l = l.titles ++ titles_at l.outline (drop l.place-index l.places) ≡ titles_at l.outline l.places
