use Rattle.std.proofs.Common.{◌≡◌, ◌++◌, drop}
use Rattle.std.specs.String.{string_bytes}
use Rattle.org_look.specs.Strips.{strips_text}
use Rattle.org_look.proofs.line.push_strips.Given as goal

abbrev pub invariant-loop-strip : goal.invariant-loop-strip
invariant-loop-strip l = string_bytes l.out.text ++ strips_text l.signs (drop l.strip-index l.strips) ≡ string_bytes l.fn.out.text ++ strips_text l.signs l.strips
