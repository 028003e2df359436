-- The pairs of the names so far are written.
use Rattle.std.proofs.Common.{◌≡◌, take}
use Rattle.org_client.specs.Objects.{pairs_of, pairs_text}
use Rattle.org_client.proofs.properties.pairs_of.Given as goal

abbrev pub invariant-loop-place : goal.invariant-loop-place
invariant-loop-place l = l.pairs ≡ pairs_text (pairs_of l.heading.inherit.now l.heading.place (take l.place l.asked))
