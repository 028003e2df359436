-- What is written, and what is left.
use Rattle.std.proofs.Common.{◌≡◌, ◌++◌, drop}
use Rattle.org_ids.specs.Names.{one_line}
use Rattle.org_ids.proofs.names.one_line.Given as goal

abbrev pub invariant-loop-byte : goal.invariant-loop-byte
invariant-loop-byte l = l.out.items ++ one_line (drop l.byte-index l.bytes) ≡ one_line l.bytes
