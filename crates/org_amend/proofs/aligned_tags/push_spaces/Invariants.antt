-- As many spaces as were counted.
use Rattle.std.proofs.Common.{◌≡◌, ◌++◌}
use Rattle.std.specs.Prelude.{replicate}
use Rattle.org_amend.proofs.aligned_tags.push_spaces.Given as goal

abbrev pub invariant-loop-space : goal.invariant-loop-space
invariant-loop-space l = l.line.items ≡ l.fn.line.items ++ replicate l._space 32
