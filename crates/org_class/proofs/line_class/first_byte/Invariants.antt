use Rattle.std.proofs.Common.{◌≡◌, drop}
use Rattle.org_class.specs.LineClass.{first_byte}
use Rattle.org_class.proofs.line_class.first_byte.Given as goal

-- only gaps were passed so far
abbrev pub invariant-loop-byte : goal.invariant-loop-byte
invariant-loop-byte l = first_byte (drop l.byte-index l.line) ≡ first_byte l.line
