-- As many stars as were counted.
use Rattle.std.proofs.Common.{◌≡◌}
use Rattle.std.specs.Prelude.{replicate, string_bytes}
use Rattle.org_amend.proofs.head.stars.Given as goal

abbrev pub invariant-loop-star : goal.invariant-loop-star
invariant-loop-star l = string_bytes l.stars ≡ replicate l._star 42
