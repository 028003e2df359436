-- All so far are the sum's.
use Rattle.std.proofs.Common.{◌≡◌, drop}
use Rattle.org_ids.specs.Letters.{stands_for, stands_from}
use Rattle.org_ids.proofs.letters.stands_for.Given as goal

abbrev pub invariant-loop-place : goal.invariant-loop-place
invariant-loop-place l = stands_from l.place (drop l.place l.word) l.sum ≡ stands_for l.word l.sum
