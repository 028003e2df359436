-- All so far are digits.
use Rattle.std.proofs.Common.{◌≡◌, ◌+◌, drop}
use Rattle.org_ids.specs.Words.{digit_count}
use Rattle.org_ids.proofs.words.digit_count.Given as goal

abbrev pub invariant-loop-place : goal.invariant-loop-place
invariant-loop-place l = l.place + digit_count (drop l.place l.bytes) ≡ digit_count l.bytes
